pub mod OctetLaws
pub mod CellLaws
pub mod DecodeLaws
pub mod PlanLaws
pub mod EncodeLaws
pub mod RefusalLaws
pub mod RowLaws
