pub mod Held
pub mod Met
pub mod Firing
pub mod Tables
