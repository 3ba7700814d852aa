pub mod FewLaws
pub mod RowPlaceLaws
pub mod SteadyLaws
pub mod InputPairLaws
pub mod EnablePairLaws
pub mod LogicPairLaws
