pub mod RateLaws
pub mod ChangeLaws
pub mod FigureLaws
pub mod PairLaws
pub mod SheetLaws
pub mod CallLaws
