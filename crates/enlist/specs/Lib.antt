pub mod Enlisted
