pub mod Orders
pub mod Used
pub mod Fronts
