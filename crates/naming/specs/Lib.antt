pub mod Forms
pub mod Senses
