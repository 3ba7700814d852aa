-- Gathering a set piece by piece into a list.
use Rattle.std.specs.Prelude.{◌≡◌, List, ◌++◌, Contains}

-- the list grew by exactly the things that have P, some of them perhaps more than once
pub record Adds {X : Type 0} (old new : List X) (P : X → Type 0) : Type 0 where
  pub added : List X
  pub is : new ≡ old ++ added
  pub only : (x : X) → Contains added x → P x
  pub each : (x : X) → P x → Contains added x
