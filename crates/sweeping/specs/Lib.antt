pub mod Sweeping
pub mod Swept
