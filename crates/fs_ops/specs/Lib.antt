pub mod Evaluation
pub mod Fault
pub mod Operator
pub mod OperatorList
pub mod Pairs
pub mod Same
