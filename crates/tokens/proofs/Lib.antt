pub mod Weights
pub mod Bound
