mod Sweeps
mod Lists
