pub mod Magic
pub mod Header
pub mod Tape
pub mod Laws
