pub mod YieldsUp
pub mod ValuesNotUp
