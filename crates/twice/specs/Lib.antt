pub mod Twice
pub mod Laws
