pub mod Line
pub mod Output
pub mod Pieces
pub mod Walked
