pub mod Chaining
pub mod Coding
pub mod Facts
