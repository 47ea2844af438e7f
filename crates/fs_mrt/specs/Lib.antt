pub mod Shape
pub mod Peers
pub mod Record
pub mod Dump
pub mod Written
pub mod Laws
pub mod Notes
pub mod Fault
