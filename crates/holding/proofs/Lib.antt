pub mod FarCalls
pub mod Fronts
pub mod Through
