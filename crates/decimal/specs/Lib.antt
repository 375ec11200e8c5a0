pub mod Decimal
pub mod Spells
pub mod Powers
pub mod Laws
