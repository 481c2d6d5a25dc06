pub mod Witness
pub mod Laws
pub mod Plain
