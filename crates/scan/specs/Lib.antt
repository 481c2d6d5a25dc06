pub mod Scanned
pub mod Passed
pub mod LawsScanned
pub mod Reached
