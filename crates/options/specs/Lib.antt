pub mod OptionsOf
