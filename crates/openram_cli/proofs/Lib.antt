mod CommandLaws
mod RunLaws
mod WorkLaws
mod OneAnswer
mod OneRunLaws
mod GoodKitLaws
mod LayoutOutcomeLaws
mod OutcomeLaws
