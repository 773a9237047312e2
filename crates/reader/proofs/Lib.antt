pub mod Cuts
pub mod Fielded
pub mod Rowed
pub mod SetFrom
pub mod Strays
pub mod Steps
pub mod Walks
pub mod Fillings
