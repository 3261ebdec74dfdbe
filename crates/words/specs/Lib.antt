-- What a reader has to believe, in the order in which to read it.
pub mod Search
pub mod Words
pub mod Tables
pub mod Refusals
pub mod Answers
pub mod PlantFile
