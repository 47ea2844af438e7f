pub mod Greeting
pub mod Lives
pub mod Making
pub mod Command
pub mod Laws
pub mod Survey
