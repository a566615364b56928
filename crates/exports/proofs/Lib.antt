pub mod AnsweringLaws
pub mod EventLaws
pub mod LifeLaws
