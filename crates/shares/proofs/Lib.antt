pub mod PartLaws
pub mod PlaceLaws
pub mod RowLaws
pub mod SubBalanceLaws
pub mod ApportionLaws
