pub mod AnswerLaws
pub mod AnswerLent
pub mod CallIndexer
pub mod CallPolynomials
pub mod CallRounds
