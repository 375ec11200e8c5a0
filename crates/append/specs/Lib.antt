pub mod Append
pub mod Steps
pub mod Ends
pub mod Laws
pub mod Lists
