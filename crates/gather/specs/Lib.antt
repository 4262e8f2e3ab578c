pub mod Sets
pub mod Visits
pub mod Walks
