pub mod Causes
pub mod Determined
pub mod EndsLemmas
pub mod Reasons
pub mod Silence
pub mod ToldEnds
