pub mod Fraction
pub mod Totals
pub mod Signed
