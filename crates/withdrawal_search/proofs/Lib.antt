pub mod SearchLaws
