pub mod HexLaws
mod WordLaws
mod TextLaws
