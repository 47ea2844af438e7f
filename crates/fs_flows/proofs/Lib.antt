mod Words
pub mod Along
pub mod Apart
pub mod BlockOfRule
pub mod BothFamilies
pub mod Changed
pub mod ChosenParts
pub mod Cutting
pub mod Grouping
pub mod KeyPlaces
pub mod Mending
pub mod Noting
pub mod Places
pub mod Placing
pub mod PuttingInGroups
pub mod Searching
pub mod TakingFromGroups
