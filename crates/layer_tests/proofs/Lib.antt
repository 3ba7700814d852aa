pub mod RouteFacts
