pub mod Record
pub mod Examples
pub mod Laws
