pub mod Putting
pub mod Refusing
