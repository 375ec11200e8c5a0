pub mod Source
pub mod Examples
pub mod Reading
pub mod Laws
