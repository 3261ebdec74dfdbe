mod Steps
pub mod Work
