-- the new defects, and how their loop proves them
pub mod Received
pub mod LawsReceived
