pub mod SetupRecord
pub mod RoundTrip
pub mod Examples
