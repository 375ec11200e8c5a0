pub mod Bytes
pub mod Number
pub mod Lexeme
pub mod Reading
pub mod Readable
