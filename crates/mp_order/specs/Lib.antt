pub mod Tables
pub mod Demands
pub mod Chains
pub mod Ranks
pub mod Evaluation
