pub mod Sizes
pub mod Entering
pub mod Together
pub mod Determined
