mod Rows
pub mod Tables
pub mod Walks
pub mod Definitions
pub mod Values
pub mod Effects
pub mod Environment
pub mod Soundness
mod Trees
pub mod States
pub mod Existence
pub mod Faces
pub mod Inside
pub mod FormKinds
pub mod Lengths
