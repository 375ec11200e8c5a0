pub mod Laid
pub mod Copies
pub mod Laws
