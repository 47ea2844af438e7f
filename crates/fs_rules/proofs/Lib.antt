mod Words
pub mod Alone
pub mod Chosen
pub mod Complete
pub mod Counting
pub mod Elsewhere
pub mod Entries
pub mod InParts
pub mod Losing
pub mod Orders
pub mod Prefixes
pub mod Quiet
pub mod Runs
pub mod Stepping
pub use Rattle.fs_flows.proofs.Apart
pub use Rattle.fs_flows.proofs.Changed
pub use Rattle.fs_flows.proofs.Noting
