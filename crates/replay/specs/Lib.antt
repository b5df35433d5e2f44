pub mod Replay
pub mod Parts
pub mod Replies
pub mod Examples
