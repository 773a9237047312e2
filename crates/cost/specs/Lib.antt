pub mod Order
pub mod Kind
pub mod Amounts
pub mod Earliest
pub mod Lines
