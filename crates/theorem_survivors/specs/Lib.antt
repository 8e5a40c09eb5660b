pub mod Survivors
pub mod Composed
pub mod Alike
pub mod Cases
