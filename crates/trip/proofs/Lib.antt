pub mod RoundKinds
pub mod RoundTrips
