pub mod High
