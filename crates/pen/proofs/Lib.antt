-- The laws.
pub mod Pieces
pub mod Meaning
