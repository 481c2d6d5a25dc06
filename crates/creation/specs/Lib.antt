pub mod Creation
pub mod Laws
pub mod Plain
pub mod Witness
