pub mod Position
pub mod Laws
