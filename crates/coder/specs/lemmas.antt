-- Lemmas that the impl of the measure cites, and that say what its types hold. Assumes nothing.
pub mod Closure
pub mod Fair
pub mod Independent
pub mod Sides
pub mod Sound
pub mod Words
