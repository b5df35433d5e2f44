pub mod Map
pub mod Examples
