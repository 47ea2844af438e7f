mod Words
pub mod Reported
mod Numbers
mod PeerLines
