pub mod Names
pub mod Numbers
pub mod Enabled
pub mod Places
pub mod Pairs
pub mod Afters
pub mod Builds
pub mod Kept
pub mod Jobs
pub mod Positions
pub mod Ends
pub mod Reports
pub mod Newer
mod Lists
mod IndexPlaces
mod Each
mod IndexEnds
mod IndexReports
mod Takings
pub mod Among
pub mod Named
pub mod Cutting
pub mod Going
pub mod BestNamed
