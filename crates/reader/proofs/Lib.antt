pub mod Laws
pub mod Blanks
pub mod Closes
pub mod Finds
pub mod Numbers
pub mod Turns
pub mod Cut
