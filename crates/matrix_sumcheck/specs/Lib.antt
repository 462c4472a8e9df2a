pub mod MatrixGiven
