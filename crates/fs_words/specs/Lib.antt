pub mod Figures
pub mod Operators
pub mod Prefixes
pub mod Actions
pub mod Values
pub mod Printed
