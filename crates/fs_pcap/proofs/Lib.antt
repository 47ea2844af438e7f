mod Words
pub mod Headings
pub mod Packets
pub mod ReadsBack
