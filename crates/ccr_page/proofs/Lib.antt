pub mod Adding
pub mod MarkupLaws
pub mod LinkLaws
