mod Words
pub mod Local
pub mod Swapped
