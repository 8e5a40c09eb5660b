pub mod SubBalances
pub mod Places
pub mod Inner
pub mod Apportion
