mod Words
pub mod Generating
