pub mod Counts
pub mod Members
pub mod Names
pub mod Joins
pub mod Singles
pub mod Rewrites
pub mod Kept
pub mod Counted
