mod Tallies
pub mod Steps
