pub mod Sorts
pub mod Stamps
pub mod Putting
pub mod Listing
pub mod Call
