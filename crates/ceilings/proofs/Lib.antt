mod Steps
pub mod Meaning
pub mod Promises
