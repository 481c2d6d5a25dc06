pub mod LawsSync
-- the turns of the loop over directions
pub mod LawsArrived
