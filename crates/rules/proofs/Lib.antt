pub mod Meaning
pub mod Counting
pub mod Rules
pub mod Choosing
