pub mod Community
pub mod Actions
pub mod Laws
pub mod Same
