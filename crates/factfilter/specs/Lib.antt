pub mod Filters
pub mod Explains
pub mod Sweeps
pub mod Orders
pub mod Errors
