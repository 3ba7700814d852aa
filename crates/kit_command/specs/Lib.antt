pub mod WeakLines
