-- When a list leads from one thing to another, each touching the next.
use Rattle.std.specs.Prelude.{◌≡◌, List, [], ◌∷◌}

-- all of the list have P, each touches the next, and the last of them is the one that is led to
abbrev pub LeadsBy : {X : Type 0} → (X → Type 0) → (X → X → Type 0) → X → List X → X → Type 0
LeadsBy P Touches from [] to = from ≡ to
LeadsBy P Touches from (next ∷ rest) to = P next × Touches from next × LeadsBy P Touches next rest to

-- some finite list of things that have P leads from one to the other
pub record AreLinked {X : Type 0} (P : X → Type 0) (Touches : X → X → Type 0) (a b : X) : Type 0 where
  pub path : List X
  pub leads : LeadsBy P Touches a path b
