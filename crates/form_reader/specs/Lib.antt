pub mod Sound
pub mod Text
pub mod Spelling
pub mod Rules
pub mod Reading
