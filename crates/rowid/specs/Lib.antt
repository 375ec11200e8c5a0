pub mod Rowid
pub mod Examples
