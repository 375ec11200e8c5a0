pub mod Pen
pub mod Laws
pub mod Rows
pub mod Places
pub mod Flags
pub mod Unique
pub mod Emit
pub mod Quick
