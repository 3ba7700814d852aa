-- Members of lists of rectangles.
use Rattle.std.proofs.Common.{inl, inr, List, [], ◌∷◌, ◌++◌}
use Rattle.std.specs.Prelude.{Contains}
use Rattle.std.proofs.lemmas.List.Elements.{Contains-append_cases}
use Rattle.or_geom.specs.declared.shape.Rect.{Rect}
use Rattle.or_geom.proofs.ListLaws.{contains_first, contains_later}
use Rattle.rectilinear.specs.Slabs.{AreDistinct}

-- two lists of different items with no item in common
pub distinct_append : (xs ys : List Rect) → AreDistinct xs → AreDistinct ys → ((r : Rect) → Contains xs r → Contains ys r → ⊥) → AreDistinct (xs ++ ys)
distinct_append [] ys one two apart = two
distinct_append (x ∷ xs) ys one two apart = (
  λ has. elim (Contains-append_cases xs ys x has) [ inl a ↦ one.0 a | inr b ↦ apart x (contains_first x xs) b ],
  distinct_append xs ys one.1 two (λ r a b. apart r (contains_later x xs r a) b),
)
