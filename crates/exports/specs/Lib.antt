pub mod Exported
pub mod Converted
pub mod Changed
pub mod CellNumbers
pub mod Priced
