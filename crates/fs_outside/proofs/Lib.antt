pub mod MemoryFiles
pub mod Telling
pub mod Answering
pub mod Scripting
