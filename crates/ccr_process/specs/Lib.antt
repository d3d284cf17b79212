pub mod Launches
pub mod Ends
pub mod Pipes
pub mod Piping
pub mod Runs
pub mod Commands
