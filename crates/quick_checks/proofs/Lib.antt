pub mod SufficeLaws
