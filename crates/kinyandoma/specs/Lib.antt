pub mod Trees
pub mod Profiles
pub mod Lexemes
