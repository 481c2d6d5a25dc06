pub mod Counted
pub mod Round
