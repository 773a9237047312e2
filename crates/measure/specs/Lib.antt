pub mod Asked
pub mod Laws
pub mod Limits
pub mod Numbers
pub mod Rows
pub mod Texts
