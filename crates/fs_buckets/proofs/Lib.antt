mod Words
pub mod Pairing
pub mod Destinations
pub mod Finding
pub mod Homes
pub mod Replacing
pub mod Nesting
pub mod Opening
pub mod Resizing
pub mod Running
pub mod Splicing
pub mod Stretching
pub mod Subnets
pub mod Widths
pub mod Parting
pub mod Replaced
pub mod ListMending
