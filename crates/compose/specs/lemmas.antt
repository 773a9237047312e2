-- Lemmas that the impls of the measures cite, and that say what their types hold. Assumes nothing.
pub mod Folds
pub mod Sound
pub mod Sums
pub mod Ties
