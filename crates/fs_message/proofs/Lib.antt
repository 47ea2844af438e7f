mod Words
mod Markers
mod BegunMessages
mod CapabilityLists
pub mod StreamLaws
pub mod TextFirst
pub mod OpenReadBack
