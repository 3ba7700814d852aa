pub mod HighLaws
