pub mod Image
pub mod Bytes
pub mod Faults
pub mod Check
pub mod Written
pub mod Fresh
pub mod OneImage
