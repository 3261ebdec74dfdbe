mod Answers
pub mod Order
pub mod Calls
