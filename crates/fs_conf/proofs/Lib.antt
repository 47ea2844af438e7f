mod Words
pub mod Separated
pub mod DottedText
pub mod ColonText
mod Items
mod Single
mod OneRule
pub mod Found
pub mod Accepted
mod Documents
mod Faulted
mod RulesFaulted
mod RulesJudging
mod RulesTelling
mod Judging
mod Sought
mod CanonicalFrame
mod ListedActions
mod TextSought
pub mod Announced
