pub mod Files
pub mod Rowing
