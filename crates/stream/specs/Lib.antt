pub mod Stream
pub mod Sink
pub mod Laws
pub mod Length
pub mod Cases
pub mod Shapes
pub mod Doubled
