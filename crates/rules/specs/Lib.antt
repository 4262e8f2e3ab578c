pub mod Views
pub mod Once
pub mod Choices
pub mod Read
