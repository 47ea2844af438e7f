mod Words
pub mod Spaces
