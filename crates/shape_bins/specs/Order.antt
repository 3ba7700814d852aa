-- Places in an order.
use Rattle.std.specs.Prelude.{◌≡◌, ◌↔◌, ℕ, ◌-◌, ◌%◌, ◌<◌, ◌≤◌, List, ◌++◌, length, Contains}

-- the lower 32 bits
abbrev pub place_of_key : ℕ → ℕ
place_of_key key = key % 4294967296

-- the places from one up to another were added, in some order
pub record IsOrderAdded (begin end : ℕ) (old new : List ℕ) : Type 0 where
  pub added : List ℕ
  pub is : new ≡ old ++ added
  pub sized : length added ≡ end - begin
  pub each : (place : ℕ) → Contains added place ↔ ((begin ≤ place) × (place < end))
