pub mod RepetitionLaws
