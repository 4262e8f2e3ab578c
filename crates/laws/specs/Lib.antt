pub mod Limits
pub mod Fuel
pub mod History
pub mod Places
pub mod Passes
