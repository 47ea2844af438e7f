pub mod Configuration
pub mod Draws
pub mod Generator
pub mod Messages
pub mod Command
