mod Words
pub mod Converting
pub mod Ending
pub mod Fitting
pub mod Surveying
mod Living
