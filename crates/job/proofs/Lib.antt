pub mod HeadLaws
pub mod PartLaws
