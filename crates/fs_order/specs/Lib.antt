pub mod Component
pub mod Comparison
pub mod Ranked
pub mod Laws
