-- Lemmas that the impl of the measure cites, and that say what its types hold. Assumes nothing.
pub mod Laws
pub mod Sound
