pub mod Lengths
pub mod Runs
pub mod Count
