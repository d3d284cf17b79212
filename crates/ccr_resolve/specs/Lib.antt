pub mod Kinds
pub mod NodeBound
pub mod Answer
pub mod Cases
pub mod Search
pub mod Chosen
pub mod Sought
