pub mod Additions
pub mod Alignments
pub mod Model
