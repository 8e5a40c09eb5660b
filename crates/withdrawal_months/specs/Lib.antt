pub mod Levels
pub mod TierLevels
