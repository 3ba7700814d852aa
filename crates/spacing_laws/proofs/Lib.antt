pub mod CloseLaws
pub mod PartLaws
pub mod RepeatLaws
pub mod RowLaws
pub mod PathLaws
pub mod BankLaws
