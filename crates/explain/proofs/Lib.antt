pub mod SmallLines
pub mod Supplying
pub mod Rows
pub mod Telling
pub mod Laws
