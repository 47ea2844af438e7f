mod Words
pub mod Messages
pub mod Bodies
mod Written
pub mod AllHeard
pub mod Noted
