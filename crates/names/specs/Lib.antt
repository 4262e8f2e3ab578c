pub mod Known
pub mod Table
pub mod Once
