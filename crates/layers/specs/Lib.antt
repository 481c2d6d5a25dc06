pub mod Layers
pub mod Boxes
pub mod Layer
pub mod Cases
pub mod LawsLayer
