pub mod FaultLaws
pub mod LimitLaws
pub mod NamedLaws
