mod Words
pub mod Below
pub mod ByEnds
pub mod Known
pub mod Lying
pub mod AtPoints
pub mod Patterns
pub mod Testing
pub mod ByBits
pub mod Measuring
pub mod Probing
pub mod Entries
pub mod Destinations
pub mod Reported
pub mod Spanning
pub mod Matched
pub mod Walked
