mod Words
pub mod PartsOfRecords
pub mod Records
pub mod AdvancingRecords
pub mod Done
pub mod Fronts
pub mod Taking
pub mod Again
pub mod CutShort
pub mod Joining
pub mod Lifting
pub mod Skipping
pub mod Stages
pub mod Fixed
pub mod Coming
pub mod Advancing
pub mod Spelling
pub mod Written
