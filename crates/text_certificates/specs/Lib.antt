pub mod Printed
pub mod Lines
pub mod Texts
pub mod CellLines
