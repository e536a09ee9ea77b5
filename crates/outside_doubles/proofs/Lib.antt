pub mod MemoryLemmas
pub mod QuietLemmas
pub mod QuietReadings
