pub mod Key
pub mod Neighbour
pub mod Preference
pub mod Unicast
pub mod Search
pub mod Turns
pub mod Laws
