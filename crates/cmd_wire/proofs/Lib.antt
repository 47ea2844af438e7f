mod Words
pub mod FromStages
pub mod Hearing
pub mod Statuses
pub mod Concluding
pub mod Promising
pub mod PromisingHearing
pub mod Listings
pub mod FromPairing
pub mod Carrying
pub mod Arrivable
pub mod Accepted
pub mod Named
mod Folding
mod Recorded
mod RecordingEnds
mod Kept
mod KeptRules
mod KeptExactly
mod KeptFold
mod KeepingEnds
mod Judging
