pub mod Characters
pub mod Beginnings
pub mod Laws
pub mod Examples
pub mod Decided
pub mod Ways
pub mod Turn
