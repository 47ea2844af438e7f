mod Words
pub mod Discarding
pub mod Outputs
pub mod Parts
pub mod Walks
pub mod Decades
