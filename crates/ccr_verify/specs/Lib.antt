pub mod Answers
pub mod Sources
pub mod Told
