pub mod Memory
pub mod MemDepot
pub mod MemSink
pub mod Quiet
pub mod QuietSink
pub mod QuietLog
pub mod QuietReading
pub mod QuietDepot
