mod Words
pub mod First
pub mod Pairs
pub mod Precede
pub mod Same
pub mod Steps
