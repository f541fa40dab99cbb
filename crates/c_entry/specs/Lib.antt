pub mod Faults
pub mod Entry
pub mod Together
pub mod Determined
