pub mod Examples
pub mod SetLaws
pub mod PlaneLaws
pub mod RoomLaws
pub mod JudgedLaws
pub mod Demands
pub mod Claims
