pub mod Sits
mod ArrayCalls
mod SliceCalls
