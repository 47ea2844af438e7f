mod Words
pub mod Flags
pub mod Matched
pub mod Tags
pub mod Walks
pub mod Headers
pub mod Uppers
