pub mod Repeats
pub mod Better
