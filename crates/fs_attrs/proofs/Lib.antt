mod Words
pub mod Alike
mod PartLists
mod FieldOutcome
mod PartSizes
mod AttributeScans
mod TextsReadBack
mod PathReadBack
mod WrittenAttributes
pub mod UpdateReadBack
pub mod RuleOctets
