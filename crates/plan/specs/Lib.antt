pub mod Numbers
pub mod Replies
pub mod Runs
pub mod Standing
pub mod Texts
