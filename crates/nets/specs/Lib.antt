pub mod Cut
pub mod Making
pub mod lemmas
