pub mod Steps
pub mod Starts
pub mod Runs
pub mod Chains
