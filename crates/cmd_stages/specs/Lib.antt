pub mod Refusal
pub mod Load
pub mod Play
pub mod Player
pub mod Items
pub mod Writing
pub mod Said
