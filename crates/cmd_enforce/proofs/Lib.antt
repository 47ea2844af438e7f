mod Words
pub mod Opened
pub mod AtMoments
pub mod Enforcing
pub mod Walking
pub mod Surveying
