pub mod Call
pub mod Demands
