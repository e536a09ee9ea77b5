pub mod LawfulUses
pub mod SortedPieces
pub mod SomeSort
pub mod Numbers
pub mod Cycles
pub mod Sublists
pub mod KeptForms
pub mod KeptDefs
pub mod KeptNames
pub mod OfSorts
pub mod TopSorts
pub mod KeptSorts
mod Kept
