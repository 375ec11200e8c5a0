pub mod White
pub mod Parts
pub mod Steps
pub mod Laws
pub mod Apart
