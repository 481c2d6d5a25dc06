pub mod Writers
pub mod Written
pub mod Kept
