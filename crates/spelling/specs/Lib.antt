pub mod Token
pub mod Rows
pub mod Spelling
pub mod Table
pub mod Laws
