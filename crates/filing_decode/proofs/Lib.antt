pub mod ContentsLaws
pub mod SoundLaws
