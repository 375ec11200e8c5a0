pub mod Powers
pub mod Columns
pub mod Signed
pub mod Turns
pub mod Whole
