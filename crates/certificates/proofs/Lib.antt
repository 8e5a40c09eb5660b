pub mod CallLaws
pub mod SumLaws
pub mod ScanLaws
