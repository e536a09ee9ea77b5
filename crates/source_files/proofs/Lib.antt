pub mod Clocks
pub mod Existence
pub mod FirstFault
pub mod Headers
pub mod PadsExist
pub mod ProgramPads
pub mod Sources
pub mod StimulusRules
