pub mod Names
pub mod Joined
pub mod Single
pub mod Records
pub mod Padded
pub mod Numbers
pub mod Texts
