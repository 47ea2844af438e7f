pub mod Order
pub mod Header
pub mod Head
pub mod Capture
pub mod Laws
pub mod Fault
