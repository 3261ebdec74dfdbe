-- What the definitions say in plain words.
pub mod Numbers
