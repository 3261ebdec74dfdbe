pub mod Repeating
pub mod LeftCovers
pub mod Seeds
pub mod Starts
pub mod LeftSeeds
pub mod Meaning
pub mod FlatLog
pub mod Choices
