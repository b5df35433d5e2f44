pub mod RoundTrip
pub mod OneResult
pub mod Examples
