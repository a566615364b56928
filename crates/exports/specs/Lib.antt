pub mod Numbers
pub mod Answering
pub mod Making
pub mod Calls
pub mod Lives
pub mod Steps
