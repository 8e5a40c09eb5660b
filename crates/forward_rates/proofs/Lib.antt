pub mod PowerLaws
pub mod FigureLaws
pub mod MarginLaws
pub mod SideLaws
pub mod TermLaws
pub mod SearchLaws
