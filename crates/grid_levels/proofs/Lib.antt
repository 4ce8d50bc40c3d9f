pub mod StuckLaws
pub mod CountLaws
pub mod LevelLaws
pub mod DescendLaws
pub mod FirstLaws
pub mod Returns
pub mod PlanLaws
