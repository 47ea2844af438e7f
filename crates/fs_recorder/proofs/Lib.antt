mod Words
pub mod Telling
pub mod Doing
pub mod Seating
pub mod Waking
pub mod Places
pub mod Sessions
pub mod Settling
pub mod Stepping
mod PlaceWords
pub mod Placing
pub mod Connecting
pub mod Knowing
pub mod Waiting
pub mod Sweeping
pub mod Recorded
pub mod Alternating
