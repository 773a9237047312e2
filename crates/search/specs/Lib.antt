pub mod Candidates
pub mod Certificate
pub mod Numbers
pub mod Order
pub mod Phases
pub mod Rows
pub mod Split
pub mod Texts
