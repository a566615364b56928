pub mod Archives
pub mod Assembly
pub mod Told
