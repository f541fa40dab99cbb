pub mod Rest
pub mod Pieces
pub mod Numbers
