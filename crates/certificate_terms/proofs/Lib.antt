pub mod PositionLaws
pub mod FaultLaws
