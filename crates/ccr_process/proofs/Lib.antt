pub mod Copies
pub mod Setting
pub mod Calls
pub mod Walks
