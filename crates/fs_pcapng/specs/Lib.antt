pub mod Time
pub mod Options
pub mod Block
pub mod Packets
pub mod Pcapng
pub mod Written
pub mod Laws
pub mod Fault
