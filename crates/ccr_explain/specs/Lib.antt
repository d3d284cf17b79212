pub mod Demand
pub mod Narrowed
pub mod ClashValue
pub mod Clash
pub mod WhyNot
pub mod Cut
pub mod Reduced
