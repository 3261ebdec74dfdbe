-- The laws.
pub mod Places
