pub mod Stores
pub mod Digits
pub mod Texts
