pub mod Header
pub mod Stream
pub mod Deframer
pub mod Capabilities
pub mod Open
pub mod Notice
pub mod Write
pub mod Laws
