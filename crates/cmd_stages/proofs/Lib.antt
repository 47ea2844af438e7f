mod Words
pub mod LookingAhead
pub mod Playing
pub mod Reading
pub mod Stages
pub mod Openings
pub mod Sendable
pub mod Texts
