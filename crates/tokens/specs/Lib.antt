pub mod Corners
pub mod Tokens
pub mod Ample
pub mod Weights
pub mod Bound
pub mod Cases
