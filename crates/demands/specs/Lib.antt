pub mod Lends
pub mod Demands
pub mod Halves
pub mod Between
pub mod Named
pub mod Jobs
