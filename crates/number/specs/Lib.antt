pub mod Number
pub mod Laws
pub mod Trip
