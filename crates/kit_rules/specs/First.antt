-- The first item of a list of which something does not hold.
use Rattle.std.specs.Prelude.{◌≡◌, ℕ, ◌<◌, List, Option, Some, slice_get, MatchOption}

-- each item of the list has P
abbrev pub EachHas : {X : Type 0} → (X → Type 0) → List X → Type 0
EachHas {X} P xs = (place : ℕ) (x : X) → slice_get xs place ≡ Some x → P x

-- the item at this place has not P, and each before it has
pub record IsFirstWithout {X : Type 0} (P : X → Type 0) (xs : List X) (place : ℕ) : Type 0 where
  pub item : X
  pub here : slice_get xs place ≡ Some item
  pub lacks : P item → ⊥
  pub before : (earlier : ℕ) (x : X) → earlier < place → slice_get xs earlier ≡ Some x → P x

-- the place of the first item that has not P; none where each has
abbrev pub FindsWithout : {X : Type 0} → (X → Type 0) → List X → Option ℕ → Type 0
FindsWithout {X} P xs found = MatchOption found (EachHas P xs) (IsFirstWithout P xs)
