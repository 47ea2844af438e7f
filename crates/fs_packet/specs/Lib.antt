pub mod Fields
pub mod Chain
pub mod Matching
pub mod Reading
pub mod Told
