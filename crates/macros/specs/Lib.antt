pub mod Macros
