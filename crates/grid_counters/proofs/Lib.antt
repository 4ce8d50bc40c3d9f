pub mod GatherLaws
pub mod WindowLaws
pub mod ReadingLaws
pub mod ThreeLaws
pub mod SetLaws
pub mod JudgeLaws
pub mod PromiseLaws
pub mod ConvertLaws
