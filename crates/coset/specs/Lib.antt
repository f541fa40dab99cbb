pub mod Code
pub mod CellSets
pub mod Codes
pub mod Plans
pub mod CellLists
pub mod OnePlan
pub mod Searches
