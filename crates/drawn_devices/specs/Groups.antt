-- Boxes by number.
use Rattle.std.specs.Prelude.{◌≡◌, ◌≢◌, ◌⊎◌, ℕ, ◌+◌, ◌<◌, ◌==◌, List, [], ◌∷◌, ◌++◌, length, slice_index_or, if◌then◌else◌}
use Rattle.or_geom.specs.declared.shape.Rect.{Rect}
use Rattle.or_geom.specs.declared.shape.Shape.{Shape}

-- the boxes of the shapes that have this number
abbrev pub boxes_with : ℕ → List Shape → List ℕ → List Rect
boxes_with number [] numbers = []
boxes_with number (s ∷ ss) [] = []
boxes_with number (s ∷ ss) (n ∷ ns) = if n == number then s.rect ∷ boxes_with number ss ns else boxes_with number ss ns

-- the boxes in the group with this number
abbrev pub group_at : List (List Rect) → ℕ → List Rect
group_at groups number = slice_index_or groups number []

-- a number among some, or the next one
abbrev pub IsCounted : ℕ → ℕ → ℕ → Type 0
IsCounted number old new = ((number < old) × (new ≡ old)) ⊎ ((number ≡ old) × (new ≡ old + 1))

-- there is a group with this number now, empty if it is new
pub record IsOpened (number : ℕ) (old new : List (List Rect)) : Type 0 where
  pub same : (k : ℕ) → group_at new k ≡ group_at old k
  pub inside : number < length new
  pub count : IsCounted number (length old) (length new)

-- the box was put to the group with this number, perhaps a new one
pub record IsPut (rect : Rect) (number : ℕ) (old new : List (List Rect)) : Type 0 where
  pub here : group_at new number ≡ group_at old number ++ rect ∷ []
  pub other : (k : ℕ) → k ≢ number → group_at new k ≡ group_at old k
  pub count : IsCounted number (length old) (length new)

-- the boxes of each number, of which none is empty
pub record AreBoxGroups (shapes : List Shape) (numbers : List ℕ) (groups : List (List Rect)) : Type 0 where
  pub each : (k : ℕ) → group_at groups k ≡ boxes_with k shapes numbers
  pub some : (k : ℕ) → k < length groups → group_at groups k ≢ []
