mod Words
pub mod Checking
pub mod RulesChecking
pub mod TapeChecking
pub mod Counting
pub mod Surveying
pub mod Following
pub mod Telling
pub mod Running
mod Living
