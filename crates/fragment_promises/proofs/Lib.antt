pub mod StandingLaws
pub mod BlockLaws
pub mod PutLaws
pub mod StepLaws
pub mod FinishLaws
pub mod MissingLaws
pub mod SequenceLaws
pub mod CuttingLaws
pub mod Examples
mod MissingExamples
pub mod LayoutLaws
pub mod Arrangement
pub mod Claims
