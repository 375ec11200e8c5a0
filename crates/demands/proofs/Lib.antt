pub mod Lends
pub mod Demands
