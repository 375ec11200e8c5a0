pub mod Laws
pub mod JobsLaws
