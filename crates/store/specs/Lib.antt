pub mod Keeps
pub mod Making
pub mod Parts
