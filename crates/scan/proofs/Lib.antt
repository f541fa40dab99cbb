pub mod Cutting
pub mod Remains
pub mod Spelling
