pub mod Columns
pub mod States
pub mod Filing
pub mod Writing
pub mod Adding
