pub mod Sheet
pub mod Laws
pub mod Trip
