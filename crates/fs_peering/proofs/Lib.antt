mod Words
pub mod WrittenInParts
pub mod Composing
pub mod Attending
mod Speaking
mod Exchanging
pub mod OpenSteps
pub mod Moments
pub mod Ahead
pub mod Courses
pub mod Phases
pub mod Feeding
pub mod Hearing
mod Announced
mod Receiving
mod Listened
mod Answering
mod Settled
mod Counting
mod Sending
mod Replying
mod BothEnds
mod StaysOpen
mod Timely
mod Expiring
mod Apart
mod Limits
mod Unhindered
mod Paired
mod Tied
mod Sendable
mod Refusing
mod KeeperWords
pub mod Standing
pub mod Following
pub mod KeeperTells
pub mod Stepped
mod ChangeParts
mod Holding
mod Packing
mod Leading
mod Changing
pub mod Outcomes
pub mod Kept
mod SentOnLine
mod Linking
