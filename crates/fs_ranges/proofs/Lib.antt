mod Words
pub mod Blocks
pub mod ComponentTests
pub mod Enclosing
pub mod Fields
pub mod Flags
pub mod Gapping
pub mod Grouping
pub mod Hulls
pub mod Numbering
pub mod Placing
pub mod Truths
