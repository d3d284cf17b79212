pub mod RowLaws
pub mod TopLaws
pub mod BestLaws
pub mod GrowLaws
pub mod InputLaws
pub mod VersionLaws
pub mod AfterLaws
pub mod IndexLaws
pub mod RuleLaws
pub mod AlikeLaws
mod ScopeLaws
pub mod RankLaws
pub mod RangeLaws
