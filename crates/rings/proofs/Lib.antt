pub mod Four
pub mod Rings
