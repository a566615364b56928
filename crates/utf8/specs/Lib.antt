pub mod Stands
pub mod Recognised
