pub mod Entries
pub mod Filings
