-- Lists without repetition that have the same items are equally long.
use Rattle.std.proofs.Common.{◌≡◌, List, [], ◌∷◌, length, sym, subst, arith}
use Rattle.std.specs.Prelude.{Contains}
use Rattle.or_geom.specs.declared.shape.Rect.{Rect}
use Rattle.or_geom.proofs.CountLaws.{AreToldApart, at_most}
use Rattle.rectilinear.specs.Slabs.{AreDistinct}

told_apart : (rects : List Rect) → AreDistinct rects → AreToldApart (λ (r : Rect). r) rects
told_apart [] d = tt
told_apart (r ∷ rs) d = (λ s h same. d.0 (subst (λ (z : Rect). Contains rs z) (sym same) h), told_apart rs d.1)

pub same_length : (xs ys : List Rect) → AreDistinct xs → AreDistinct ys → ((r : Rect) → Contains xs r → Contains ys r) → ((r : Rect) → Contains ys r → Contains xs r) → length xs ≡ length ys
same_length xs ys d e there back =
    let first = at_most (λ (r : Rect). r) xs ys (told_apart xs d) there in
    let second = at_most (λ (r : Rect). r) ys xs (told_apart ys e) back in
    omega (arith, first, second)
