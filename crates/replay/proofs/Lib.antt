pub mod Opens
pub mod Lines
pub mod Parts
pub mod Replies
pub mod Examples
