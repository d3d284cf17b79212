pub mod Variables
pub mod Known
pub mod Walks
