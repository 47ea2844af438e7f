mod Words
pub mod Counts
pub mod Climbing
pub mod Reaching
pub mod Indexing
pub mod Walking
pub mod Marking
pub mod Sieving
pub mod Skipping
pub mod Filtering
pub mod IndexMending
pub mod MatcherMending
