pub mod Told
pub mod Written
pub mod FilesLemmas
pub mod Reading
pub mod CutTexts
