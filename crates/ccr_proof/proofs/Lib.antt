pub mod ClaimLaws
pub mod Trees
pub mod ReadTree
pub mod ProofLaws
pub mod Sound
pub mod ProofForward
