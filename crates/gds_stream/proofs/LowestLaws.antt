-- The lowest corner, the leftmost of these, is found in one walk.
use Rattle.std.proofs.Common.{◌≡◌, ℕ, suc, ◌+◌, List, [], ◌∷◌, ℤ, Bool, true, false, cond, ◌&&◌, ◌||◌, not, refl, sym, ◌∙◌, arith, int_lt}
use Rattle.std.proofs.lemmas.Int.{ints}
use Rattle.std.proofs.lemmas.Bool.{and_parts}
use Rattle.std.specs.Ordering.{int_eq}
use Rattle.or_geom.specs.declared.shape.Point.{Point}
use Rattle.gds_stream.specs.Turned.{is_lower, is_lowest, lowest_index}

later : (a b c d e f : ℤ) → (int_lt a b || (int_eq a b && int_lt d e)) ≡ false → (int_lt c a || (int_eq c a && int_lt f d)) ≡ false
    → (int_lt c b || (int_eq c b && int_lt f e)) ≡ false
later a b c d e f h k = grind (arith, ints)

-- what is not lower than one that is not lower than another is not lower than that
not_lower : (w q r : Point) → is_lower q w ≡ false → is_lower r q ≡ false → is_lower r w ≡ false
not_lower w q r h k = later q.y w.y r.y q.x w.x r.x h k

not_true : (b : Bool) → not b ≡ true → b ≡ false
not_true true h = absurd cc
not_true false h = refl

none_lower : (w q : Point) (rest : List Point) → is_lower q w ≡ false → is_lowest q rest ≡ true → is_lowest w rest ≡ true
none_lower w q [] h all = refl
none_lower w q (r ∷ rest) h all =
    let both = and_parts (not (is_lower r q)) (is_lowest q rest) all in
    let here : is_lower r q ≡ false = not_true (is_lower r q) both.0 in
    rw (not_lower w q r h here) (none_lower w q rest h both.1)

-- the index, where some corners were looked at and this one was the lowest of them
abbrev pub index_among : Point → List Point → ℕ → ℕ → ℕ
index_among w rest index next = cond (is_lowest w rest) index (next + lowest_index rest)

pub lower_next : (w q : Point) (rest : List Point) (index next : ℕ) → is_lower q w ≡ true
    → index_among w (q ∷ rest) index next ≡ index_among q rest next (next + 1)
lower_next w q rest index next h = rw h (at_next (is_lowest q rest))
  where
    at_next : (b : Bool) → next + cond b 0 (suc (lowest_index rest)) ≡ cond b next (next + 1 + lowest_index rest)
    at_next true = omega arith
    at_next false = omega arith

pub other_next : (w q : Point) (rest : List Point) (index next : ℕ) → is_lower q w ≡ false
    → index_among w (q ∷ rest) index next ≡ index_among w rest index (next + 1)
other_next w q rest index next h = rw h (at_other (is_lowest w rest) (is_lowest q rest) refl refl)
  where
    at_other : (b d : Bool) → is_lowest w rest ≡ b → is_lowest q rest ≡ d
        → cond b index (next + cond d 0 (suc (lowest_index rest))) ≡ cond b index (next + 1 + lowest_index rest)
    at_other true d is here = refl
    at_other false true is here = (let both : true ≡ false = sym (none_lower w q rest h here) ∙ is in absurd cc)
    at_other false false is here = omega arith
