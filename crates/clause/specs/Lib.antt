pub mod Held
pub mod Later
pub mod Parts
