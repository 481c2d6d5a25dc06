pub mod Streams
pub mod Fits
pub mod Header
pub mod Trip
pub mod Kinds
pub mod RoundTrips
pub mod Printed
