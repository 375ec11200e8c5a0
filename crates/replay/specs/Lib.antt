pub mod Case
pub mod Laws
