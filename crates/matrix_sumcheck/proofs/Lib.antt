pub mod MatrixTerms
pub mod MatrixQuotients
pub mod JoinedForms
pub mod GivenLaws
