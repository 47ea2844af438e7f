pub mod Tapes
pub mod Books
pub mod Seats
pub mod Door
pub mod Deeds
pub mod Steps
pub mod Works
pub mod Laws
