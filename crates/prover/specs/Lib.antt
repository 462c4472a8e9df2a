pub mod EntrySums
pub mod CallGiven
