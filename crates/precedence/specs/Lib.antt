pub mod Sorts
pub mod Loops
pub mod Call
