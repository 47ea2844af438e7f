pub mod Along
pub mod Changes
pub mod Difference
pub mod Noted
pub mod Places
pub mod Steps
pub mod Tape
