pub mod Faults
pub mod Field
pub mod Number
pub mod Row
