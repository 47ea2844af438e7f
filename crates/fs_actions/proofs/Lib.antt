mod Words
pub mod Insertion
pub mod ReadBack
pub mod Listed
pub mod Behind
