pub mod Numbers
pub mod Commands
pub mod Options
pub mod Usage
pub mod Aborts
pub mod Pages
pub mod Looking
