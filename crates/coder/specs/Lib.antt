pub mod Connectivity
pub mod Making
pub mod Rank
pub mod lemmas
