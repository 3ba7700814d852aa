-- Reading one point after the other.
use Rattle.std.proofs.Common.{◌≡◌, ◌≢◌, ℕ, ◌+◌, List, [], ◌∷◌, ◌++◌, length, Option, Some, None, refl, sym, ap, subst, ◌∙◌, append_assoc, arith, ◌⊎◌, inl, inr}
use Rattle.std.proofs.lemmas.List.{append-nil}
use Rattle.std.specs.Option.{option_map}
use Rattle.or_geom.specs.declared.shape.Point.{Point}
use Rattle.gds_records.specs.Values.{int32_of, first_point_of, with_point, points_from}

-- the points so far, and those of the rest
abbrev pub after_front : List Point → Option (List Point) → Option (List Point)
after_front front read = option_map (λ ps. front ++ ps) read

regroup : (front : List Point) (p : Point) (read : Option (List Point))
    → after_front front (with_point p read) ≡ after_front (front ++ p ∷ []) read
regroup front p (Some ps) = ap (λ (x : List Point). Some x) (sym (append_assoc front (p ∷ []) ps))
regroup front p None = refl

pub one_more : (bytes rest : List ℕ) (p : Point) → first_point_of bytes ≡ Some (p, rest)
    → (points_from bytes ≡ with_point p (points_from rest)) × (length rest + 8 ≡ length bytes)
unfolding first_point_of points_from
one_more (a ∷ b ∷ c ∷ d ∷ e ∷ f ∷ g ∷ h ∷ more) rest p is =
    let q : Point = record { x = int32_of a b c d; y = int32_of e f g h } in
    let same : ◌≡◌ {A = Point × List ℕ} (q, more) (p, rest) = cc in
    subst (λ (y : Point × List ℕ). (points_from (a ∷ b ∷ c ∷ d ∷ e ∷ f ∷ g ∷ h ∷ more) ≡ with_point y.0 (points_from y.1))
    × (length y.1 + 8 ≡ length (a ∷ b ∷ c ∷ d ∷ e ∷ f ∷ g ∷ h ∷ more))) same (refl, omega arith)
one_more bytes rest p is = absurd cc

pub nothing_more : (bytes : List ℕ) → first_point_of bytes ≡ None → (points_from bytes ≡ None) ⊎ (bytes ≡ [])
unfolding first_point_of points_from
nothing_more [] is = inr refl
nothing_more (a ∷ b ∷ c ∷ d ∷ e ∷ f ∷ g ∷ h ∷ more) is = absurd cc
nothing_more bytes is = inl refl

none_before : (read : Option (List Point)) → after_front [] read ≡ read
none_before (Some ps) = refl
none_before None = refl

pub begins : (bytes : List ℕ) → after_front [] (points_from bytes) ≡ points_from bytes
begins bytes = none_before (points_from bytes)

-- a turn of the loop
pub goes_on : (front : List Point) (bytes rest whole : List ℕ) (p : Point) → first_point_of bytes ≡ Some (p, rest)
    → after_front front (points_from bytes) ≡ points_from whole
    → after_front (front ++ p ∷ []) (points_from rest) ≡ points_from whole
goes_on front bytes rest whole p is so_far =
    sym (regroup front p (points_from rest)) ∙ sym (ap (after_front front) (one_more bytes rest p is).0) ∙ so_far

pub ends_well : (front : List Point) (whole : List ℕ) (bytes : List ℕ) → bytes ≡ []
    → after_front front (points_from bytes) ≡ points_from whole → Some front ≡ points_from whole
unfolding points_from
ends_well front whole [] e so_far = ap (λ (x : List Point). Some x) (sym (append-nil front)) ∙ so_far
ends_well front whole (b ∷ bytes) e so_far = absurd cc

pub ends_badly : (front : List Point) (whole bytes : List ℕ) → first_point_of bytes ≡ None → bytes ≢ []
    → after_front front (points_from bytes) ≡ points_from whole → None ≡ points_from whole
ends_badly front whole bytes is ne so_far =
    elim (nothing_more bytes is) [
      | inl none ↦ sym (ap (after_front front) none) ∙ so_far
      | inr e ↦ absurd (ne e)
    ]
