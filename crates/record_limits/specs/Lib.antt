pub mod Bodies
pub mod TierFaults
