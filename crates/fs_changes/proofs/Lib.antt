mod Words
pub mod Along
pub mod Apart
pub mod Filters
pub mod Following
pub mod Leading
pub mod Nexting
pub mod Noting
pub mod Parts
pub mod Placing
pub mod Seams
pub mod Spans
pub mod Stretched
pub mod Same
