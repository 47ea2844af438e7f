pub mod Addresses
pub mod Between
pub mod Buckets
pub mod Destinations
pub mod Housed
pub mod Runs
pub mod Mending
