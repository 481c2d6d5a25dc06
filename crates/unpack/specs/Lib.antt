-- what the loops over kinds and sheets store, and that it is the window
pub mod Edges
pub mod Unpacked
-- whether pointers ride
pub mod Rides
-- the window that is unpacked
pub mod GivenWindow
