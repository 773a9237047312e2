pub mod Asked
pub mod Complements
pub mod Rows
