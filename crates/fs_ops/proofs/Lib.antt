mod Words
pub mod Canonical
pub mod Found
pub mod Grammar
pub mod Groups
pub mod Normal
