-- The laws, each file over those above it.
pub mod Readings
pub mod Endings
pub mod Files
