pub mod Finite
pub mod BenchPart
pub mod Looks
pub mod Sizes
pub mod Alikes
pub mod Chains
pub mod SameRows
