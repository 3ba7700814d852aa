-- Texts that stand one after another in one buffer, by the places where they end.
use Rattle.std.specs.Prelude.{◌≡◌, ℕ, ◌≤◌, List, [], ◌∷◌, slice_range}

-- the texts, the first of which begins at this place
abbrev pub texts_from : List ℕ → ℕ → List ℕ → List (List ℕ)
texts_from bytes start [] = []
texts_from bytes start (end ∷ ends) = slice_range bytes start end ∷ texts_from bytes end ends

-- no text ends before it begins, and the last ends at this place
abbrev pub AreEndsTo : ℕ → ℕ → List ℕ → Type 0
AreEndsTo last start [] = start ≡ last
AreEndsTo last start (end ∷ ends) = (start ≤ end) × AreEndsTo last end ends
