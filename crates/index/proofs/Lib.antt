pub mod IndexValues
