pub mod Rfc3629
pub mod Scan
pub mod Characters
pub mod Beginnings
pub mod Laws
pub mod Plain
pub mod Mask
pub mod Examples
