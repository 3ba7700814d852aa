pub mod RailLaws
