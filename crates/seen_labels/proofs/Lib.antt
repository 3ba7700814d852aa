mod PointLaws
mod OrderLaws
mod WalkLaws
mod ThereLaws
mod StayLaws
mod RowWholeLaws
mod LogicWholeLaws
mod BankWholeLaws
mod ClearLaws
mod CutStayLaws
pub mod SeenLabelLaws
