pub mod Render
pub mod Steps
pub mod Laws
pub mod Modes
pub mod Jobs
pub mod JobsLaws
