pub use Rattle.fs_session.proofs.Transitions
pub use Rattle.fs_session.proofs.SessionSteps
pub use Rattle.fs_session.proofs.ReplySteps
pub use Rattle.fs_session.proofs.Arriving
pub use Rattle.fs_session.proofs.MessageRuns
pub use Rattle.fs_session.proofs.TwoPieces
pub use Rattle.fs_session.proofs.Returning
mod Words
pub mod Handover
pub mod Waking
mod Events
mod Happening
pub mod Lowest
mod Running
mod Taking
mod Reading
mod Opening
mod Fronting
pub mod SessionInPieces
mod ReceiverReplies
mod Closing
pub mod Unnamed
