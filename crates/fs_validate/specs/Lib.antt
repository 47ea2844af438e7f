pub mod Originator
pub mod Validity
pub mod Basis
pub mod Laws
