pub mod PlacedRows
pub mod Words
pub mod Faults
pub mod Groups
pub mod Orders
pub mod Lawful
