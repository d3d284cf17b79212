pub mod Walk
pub mod Claims
pub mod CutLemmas
pub mod AcceptedLine
pub mod QuietLines
pub mod Accepting
pub mod Streams
