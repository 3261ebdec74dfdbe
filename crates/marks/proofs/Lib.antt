-- The laws, each file over those above it.
pub mod Parts
pub mod Reaching
