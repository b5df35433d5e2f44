pub mod Interface
pub mod Carried
