pub mod Check
pub mod Walk
pub mod Laws
pub mod Steps
pub mod Bounds
pub mod Examples
pub mod Told
