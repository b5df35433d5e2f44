pub mod Choice
pub mod Setup
pub mod RoundTrip
pub mod OneResult
pub mod Examples
