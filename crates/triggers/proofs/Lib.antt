pub mod Disjuncts
pub mod Marked
pub mod Words
pub mod Filing
pub mod Grouping
