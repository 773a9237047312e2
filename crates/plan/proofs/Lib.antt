pub mod Carried
pub mod Fitting
pub mod Lowest
