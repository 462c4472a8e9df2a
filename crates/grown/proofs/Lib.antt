pub mod BeginningLaws
pub mod ChangeLaws
