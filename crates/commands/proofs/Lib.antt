pub mod Spelling
pub mod Counting
pub mod Forms
pub mod Tables
pub mod Rewriting
pub mod ReadBack
pub mod OneReading
