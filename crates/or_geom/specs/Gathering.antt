-- What the items of a list give, one after another.
use Rattle.std.specs.Prelude.{◌⊎◌, List, [], ◌∷◌}

-- one of the items gives x
abbrev pub SomeGives : {X Y : Type 0} → (Y → X → Type 0) → List Y → X → Type 0
SomeGives gives [] x = ⊥
SomeGives gives (y ∷ ys) x = gives y x ⊎ SomeGives gives ys x

-- an item gives x together with one that stands behind it
abbrev pub SomePairGives : {X Y : Type 0} → (Y → Y → X → Type 0) → List Y → X → Type 0
SomePairGives gives [] x = ⊥
SomePairGives gives (y ∷ ys) x = SomeGives (gives y) ys x ⊎ SomePairGives gives ys x

-- one of the items has P
abbrev pub SomeHas : {Y : Type 0} → (Y → Type 0) → List Y → Type 0
SomeHas has [] = ⊥
SomeHas has (y ∷ ys) = has y ⊎ SomeHas has ys
