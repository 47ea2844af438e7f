pub mod Report
pub mod Text
pub mod Listing
pub mod Peers
pub mod Rules
pub mod TapeFault
pub mod Worded
