mod Walk
mod Tree
mod Steps
