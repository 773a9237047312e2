pub mod Counts
pub mod Laying
pub mod Laws
pub mod Reading
pub mod Lending
