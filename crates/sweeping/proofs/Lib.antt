pub mod Entries
pub mod Passing
pub mod Standing
pub mod Loops
pub mod Tying
