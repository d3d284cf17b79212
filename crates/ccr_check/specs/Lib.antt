pub mod Fault
pub mod Words
pub mod Cut
pub mod Judged
pub mod Accepted
pub mod Streamed
