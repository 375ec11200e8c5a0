pub mod Profile
pub mod Nodes
pub mod Steps
pub mod Walk
pub mod Laws
pub mod Admits
