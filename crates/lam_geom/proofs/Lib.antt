pub mod Chains
pub mod Covered
pub mod Adjoins
pub mod SquareOrder
pub mod Following
pub mod Ranks
pub mod Rects
mod Rectangles
mod Touching
mod Extents
pub mod RuleLaws
mod RuleRows
