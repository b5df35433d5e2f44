pub mod Sheet
pub mod Unique
