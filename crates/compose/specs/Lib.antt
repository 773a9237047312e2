pub mod Fold
pub mod Sum
pub mod Tie
pub mod lemmas
