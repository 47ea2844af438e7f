mod Words
pub mod Dividing
pub mod Cursors
pub mod Fitting
pub mod Opening
pub mod Bodies
pub mod Merged
pub mod Told
mod Spelled
mod Written
