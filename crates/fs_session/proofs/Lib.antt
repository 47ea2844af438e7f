mod Words
pub mod MessageRuns
pub mod SessionSteps
pub mod ReplySteps
pub mod Transitions
mod Closing
mod Quiet
pub mod Fitting
pub mod Arriving
pub mod TwoPieces
pub mod Returning
