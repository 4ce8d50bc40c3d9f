pub mod DepthLaws
pub mod ShowLaws
pub mod MisreadLaws
pub mod StoreLaws
pub mod ConvertLaws
