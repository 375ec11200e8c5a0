pub mod Nodes
pub mod Walk
pub mod Laws
pub mod Admits
