pub mod Walk
pub mod Comes
pub mod Steps
pub mod Whole
pub mod Bounds
