pub mod Lines
pub mod Smallest
