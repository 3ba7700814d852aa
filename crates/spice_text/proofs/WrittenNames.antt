-- Names that differ.
use Rattle.std.proofs.Common.{◌≡◌, ◌≢◌, ℕ, List, [], ◌∷◌, ◌++◌, Bool, true, false, cond, ◌||◌, refl, sym, ap, ◌∙◌}
use Rattle.std.specs.List.{AllByRecursion}
use Rattle.std.specs.Str.{bytes_eq}
use Rattle.std.proofs.lemmas.Bool.{or_parts}
use Rattle.or_geom.proofs.NameLaws.{other_name}
use Rattle.spice_text.specs.Words.{is_among}
use Rattle.spice_text.specs.Subcircuits.{has_repeat}
use Rattle.spice_text.specs.Writable.{Differ}

among_none : (y x : List ℕ) (seen : List (List ℕ)) → is_among y seen ≡ false → x ≢ y → is_among y (seen ++ x ∷ []) ≡ false
among_none y x [] is off = (λ i. other_name y x (λ e. off (sym e)) i || false)
among_none y x (s ∷ seen) is off = let parts = or_parts (bytes_eq y s) (is_among y seen) is in (λ i. parts.0 i || among_none y x seen parts.1 off i)

grown : (x : List ℕ) (seen ys : List (List ℕ)) → AllByRecursion (λ y. is_among y seen ≡ false) ys → AllByRecursion (λ y. x ≢ y) ys → AllByRecursion (λ y. is_among y (seen ++ x ∷ []) ≡ false) ys
grown x seen [] f g = tt
grown x seen (y ∷ ys) f g = (among_none y x seen f.0 g.0, grown x seen ys f.1 g.1)

pub no_repeat : (names seen : List (List ℕ)) → AllByRecursion (λ y. is_among y seen ≡ false) names → Differ names → has_repeat seen names ≡ false
no_repeat [] seen f g = refl
no_repeat (x ∷ names) seen f g = ap (λ v. cond v true (has_repeat (seen ++ x ∷ []) names)) f.0 ∙ no_repeat names (seen ++ x ∷ []) (grown x seen names f.1 g.0) g.1

none_seen : (names : List (List ℕ)) → AllByRecursion (λ y. is_among y [] ≡ false) names
none_seen [] = tt
none_seen (x ∷ names) = (refl, none_seen names)

-- names that differ stand there once
pub differ_once : (names : List (List ℕ)) → Differ names → has_repeat [] names ≡ false
differ_once names g = no_repeat names [] (none_seen names) g

pub once_parts : (x : List ℕ) (seen names : List (List ℕ)) → has_repeat seen (x ∷ names) ≡ false → (is_among x seen ≡ false) × (has_repeat (seen ++ x ∷ []) names ≡ false)
once_parts x seen names is = at (is_among x seen) (has_repeat (seen ++ x ∷ []) names) is where
  at : (v r : Bool) → cond v true r ≡ false → (v ≡ false) × (r ≡ false)
  at true r is = absurd cc
  at false r is = (refl, is)
