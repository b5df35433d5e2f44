pub mod Parts
pub mod Banks
