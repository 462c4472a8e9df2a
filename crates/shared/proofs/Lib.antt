pub mod EarlyReturns
pub mod LentAnswers
