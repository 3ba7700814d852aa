mod RowLaws
mod ControlLaws
mod EnableLaws
mod LogicLaws
