pub mod Bare
mod Steps
