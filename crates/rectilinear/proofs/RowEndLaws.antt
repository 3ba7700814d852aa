-- The changes of a ring up to a row, and the ends that the row has.
use Rattle.std.proofs.Common.{◌≡◌, ◌⊎◌, inl, inr, ℕ, suc, zero, ◌+◌, ◌<◌, List, [], ◌∷◌, ◌++◌, ℤ, ◌≤ℤ◌, ◌<ℤ◌, Bool, true, false, not, ◌&&◌, refl, ap, sym, subst, ◌∙◌, arith}
use Rattle.std.specs.Prelude.{int_le, Contains, IsPermutation, sum_by}
use Rattle.std.proofs.lemmas.Int.{ints, by_lt_z}
use Rattle.std.proofs.lemmas.List.Sorted.{sum_by-IsPermutation, IsPermutation-sym, Contains-permutation}
use Rattle.std.proofs.lemmas.List.Sums.{sum_by-cons}
use Rattle.or_geom.specs.declared.shape.Point.{Point}
use Rattle.or_geom.proofs.ListLaws.{contains_none, contains_cases, contains_first, contains_later}
use Rattle.rectilinear.specs.declared.changes.Change.{Change}
use Rattle.rectilinear.specs.declared.ends.End.{End}
use Rattle.rectilinear.specs.declared.ring.RingSide.{RingSide}
use Rattle.rectilinear.specs.Ring.{sides_on, sides_of}
use Rattle.rectilinear.specs.Slabs.{xor, is_odd_left, HasHeight}
use Rattle.rectilinear.specs.Rows.{is_odd_passed, AreEnds}
use Rattle.rectilinear.specs.Changes.{changes_of, ClimbFrom, Climb, HasChange, AreAtHeight, BeginsElsewhere, is_odd_count, is_odd_until, TogglesAll}

-- an odd number of the changes have p
abbrev odd_of : (Change → Bool) → List Change → Bool
odd_of p [] = false
odd_of p (c ∷ cs) = xor (p c) (odd_of p cs)

abbrev pub odd : ℕ → Bool
odd zero = false
odd (suc n) = not (odd n)

one_if : Bool → ℕ
one_if true = 1
one_if false = 0

odd_sum : (p : Change → Bool) (cs : List Change) → odd_of p cs ≡ odd (sum_by (λ c. one_if (p c)) cs)
unfolding one_if
odd_sum p [] = refl
odd_sum p (c ∷ cs) = rw (sum_by-cons (λ (c : Change). one_if (p c)) c cs) (step (p c) (odd_of p cs) (sum_by (λ c. one_if (p c)) cs) (odd_sum p cs))
  where
    step : (b o : Bool) (n : ℕ) → o ≡ odd n → xor b o ≡ odd (one_if b + n)
    step true o n e = let next : suc n ≡ 1 + n = omega arith in ap not e ∙ ap odd next
    step false o n e = let same : n ≡ 0 + n = omega arith in e ∙ ap odd same

odd_permuted : (p : Change → Bool) (xs ys : List Change) → IsPermutation xs ys → odd_of p ys ≡ odd_of p xs
odd_permuted p xs ys same = odd_sum p ys ∙ ap odd (sum_by-IsPermutation (λ c. one_if (p c)) xs ys same) ∙ sym (odd_sum p xs)

left_step : (a b l r : Bool) → xor (a && l) (xor (b && l) r) ≡ xor (xor a b && l) r
left_step true true true true = refl
left_step true true true false = refl
left_step true true false r = refl
left_step true false true r = refl
left_step true false false r = refl
left_step false true true r = refl
left_step false true false r = refl
left_step false false l r = refl

pub passed_step : (a b r : Bool) → xor a (xor b r) ≡ xor (xor a b) r
passed_step true true true = refl
passed_step true true false = refl
passed_step true false r = refl
passed_step false b r = refl

changes_left : (ss : List RingSide) (x y : ℤ) → odd_of (λ c. int_le c.y y && int_le c.x x) (changes_of ss) ≡ is_odd_left ss x y
changes_left [] x y = refl
changes_left (s ∷ ss) x y =
    ap (λ (b : Bool). xor (int_le s.a.y y && int_le s.a.x x) (xor (int_le s.b.y y && int_le s.a.x x) b)) (changes_left ss x y)
    ∙ left_step (int_le s.a.y y) (int_le s.b.y y) (int_le s.a.x x) (is_odd_left ss x y)

changes_passed : (ss : List RingSide) (y : ℤ) → odd_of (λ c. int_le c.y y) (changes_of ss) ≡ is_odd_passed ss y
changes_passed [] y = refl
changes_passed (s ∷ ss) y =
    ap (λ (b : Bool). xor (int_le s.a.y y) (xor (int_le s.b.y y) b)) (changes_passed ss y)
    ∙ passed_step (int_le s.a.y y) (int_le s.b.y y) (is_odd_passed ss y)

has_from : (cs : List Change) (c : Change) → Contains cs c → HasChange cs c.y
has_from [] c one = absurd (contains_none c one)
has_from (d ∷ ds) c one = elim (contains_cases d ds c one) [
  | inl e ↦ inl (ap (λ (x : Change). x.y) e)
  | inr more ↦ inr (has_from ds c more)
]

has_to : (cs : List Change) (h : ℤ) → HasChange cs h → (c : Change) × Contains cs c × (h ≡ c.y)
has_to [] h has = absurd has
has_to (d ∷ ds) h (inl e) = (d, contains_first d ds, e)
has_to (d ∷ ds) h (inr has) = let more = has_to ds h has in (more.0, contains_later d ds more.0 more.1, more.2)

has_permuted : (xs ys : List Change) (h : ℤ) → IsPermutation xs ys → HasChange xs h → HasChange ys h
has_permuted xs ys h same has =
    let one = has_to xs h has in
    subst (λ (z : ℤ). HasChange ys z) (sym one.2) (has_from ys one.0 (Contains-permutation xs ys one.0 same one.1))

has_side : (p : Point) (qs : List Point) (last : Point) (h : ℤ) → HasChange (changes_of (sides_on p qs last)) h → HasHeight (p ∷ qs) h ⊎ (h ≡ last.y)
has_side p [] last h (inl e) = inl (inl e)
has_side p [] last h (inr (inl e)) = inr e
has_side p [] last h (inr (inr has)) = absurd has
has_side p (q ∷ qs) last h (inl e) = inl (inl e)
has_side p (q ∷ qs) last h (inr (inl e)) = inl (inr (inl e))
has_side p (q ∷ qs) last h (inr (inr has)) = elim (has_side q qs last h has) [ inl more ↦ inl (inr more) | inr e ↦ inr e ]

side_has : (p : Point) (qs : List Point) (last : Point) (h : ℤ) → HasHeight (p ∷ qs) h → HasChange (changes_of (sides_on p qs last)) h
side_has p [] last h (inl e) = inl e
side_has p [] last h (inr has) = absurd has
side_has p (q ∷ qs) last h (inl e) = inl e
side_has p (q ∷ qs) last h (inr has) = inr (inr (side_has q qs last h has))

change_is_height : (corners : List Point) (h : ℤ) → HasChange (changes_of (sides_of corners)) h → HasHeight corners h
change_is_height [] h has = has
change_is_height (p ∷ ps) h has = elim (has_side p ps p h has) [ inl more ↦ more | inr e ↦ inl e ]

height_is_change : (corners : List Point) (h : ℤ) → HasHeight corners h → HasChange (changes_of (sides_of corners)) h
height_is_change [] h has = has
height_is_change (p ∷ ps) h has = side_has p ps p h has

-- the changes are those of the ring, in some order
pub record IsSweepOf (corners : List Point) (all : List Change) : Type 0 where
  pub left : (x y : ℤ) → odd_of (λ c. int_le c.y y && int_le c.x x) all ≡ is_odd_left (sides_of corners) x y
  pub passed : (y : ℤ) → odd_of (λ c. int_le c.y y) all ≡ is_odd_passed (sides_of corners) y
  pub heights : (h : ℤ) → HasChange all h → HasHeight corners h
  pub back : (h : ℤ) → HasHeight corners h → HasChange all h

pub sweep_of : (corners : List Point) (all : List Change) → IsPermutation (changes_of (sides_of corners)) all → IsSweepOf corners all
sweep_of corners all same = record {
  left = λ x y. odd_permuted (λ c. int_le c.y y && int_le c.x x) (changes_of (sides_of corners)) all same ∙ changes_left (sides_of corners) x y;
  passed = λ y. odd_permuted (λ c. int_le c.y y) (changes_of (sides_of corners)) all same ∙ changes_passed (sides_of corners) y;
  heights = λ h has. change_is_height corners h (has_permuted all (changes_of (sides_of corners)) h (IsPermutation-sym _ _ same) has);
  back = λ h has. has_permuted (changes_of (sides_of corners)) all h same (height_is_change corners h has);
}

odd_append : (p : Change → Bool) (xs ys : List Change) → odd_of p (xs ++ ys) ≡ xor (odd_of p xs) (odd_of p ys)
odd_append p [] ys = refl
odd_append p (x ∷ xs) ys = ap (λ (b : Bool). xor (p x) b) (odd_append p xs ys) ∙ passed_step (p x) (odd_of p xs) (odd_of p ys)

under_is_true : (a b : ℤ) → a ≤ℤ b → int_le a b ≡ true
under_is_true a b le = grind (arith, ints, le)

over_is_false : (a b : ℤ) → b <ℤ a → int_le a b ≡ false
over_is_false a b lt = grind (arith, ints, lt)

until_under : (cs : List Change) (x low : ℤ) → ((h : ℤ) → HasChange cs h → h ≤ℤ low) → odd_of (λ c. int_le c.y low && int_le c.x x) cs ≡ is_odd_until cs x
until_under [] x low under = refl
until_under (c ∷ cs) x low under =
    (λ i. xor (under_is_true c.y low (under c.y (inl refl)) i && int_le c.x x) (until_under cs x low (λ h has. under h (inr has)) i))

count_under : (cs : List Change) (low : ℤ) → ((h : ℤ) → HasChange cs h → h ≤ℤ low) → odd_of (λ c. int_le c.y low) cs ≡ is_odd_count cs
count_under [] low under = refl
count_under (c ∷ cs) low under =
    (λ i. xor (under_is_true c.y low (under c.y (inl refl)) i) (count_under cs low (λ h has. under h (inr has)) i)) ∙ xor_true (is_odd_count cs)
  where
    xor_true : (b : Bool) → xor true b ≡ not b
    xor_true true = refl
    xor_true false = refl

none_until : (cs : List Change) (x low : ℤ) → ((h : ℤ) → HasChange cs h → low <ℤ h) → odd_of (λ c. int_le c.y low && int_le c.x x) cs ≡ false
none_until [] x low over = refl
none_until (c ∷ cs) x low over =
    (λ i. xor (over_is_false c.y low (over c.y (inl refl)) i && int_le c.x x) (none_until cs x low (λ h has. over h (inr has)) i))

none_over : (cs : List Change) (low : ℤ) → ((h : ℤ) → HasChange cs h → low <ℤ h) → odd_of (λ c. int_le c.y low) cs ≡ false
none_over [] low over = refl
none_over (c ∷ cs) low over =
    (λ i. xor (over_is_false c.y low (over c.y (inl refl)) i) (none_over cs low (λ h has. over h (inr has)) i))

xor_false : (a : Bool) → xor a false ≡ a
xor_false true = refl
xor_false false = refl

-- the ends after all changes at or below a row are those of the row
pub ends_of_row : (corners : List Point) (all done rest : List Change) (low : ℤ) (ends : List End) → IsSweepOf corners all → all ≡ done ++ rest
    → ((h : ℤ) → HasChange done h → h ≤ℤ low) → ((h : ℤ) → HasChange rest h → low <ℤ h) → TogglesAll done [] ends → AreEnds (sides_of corners) low ends
ends_of_row corners all done rest low ends sweep parts under over toggled = record {
  rise = toggled.rise;
  even = toggled.odd ∙ xor_false (is_odd_count done) ∙ sym (count_under done low under)
      ∙ sym (xor_false (odd_of (λ c. int_le c.y low) done)) ∙ ap (λ (b : Bool). xor (odd_of (λ c. int_le c.y low) done) b) (sym (none_over rest low over))
      ∙ sym (odd_append (λ c. int_le c.y low) done rest) ∙ ap (odd_of (λ c. int_le c.y low)) (sym parts) ∙ sweep.passed low;
  same = λ x. toggled.same x ∙ xor_false (is_odd_until done x) ∙ sym (until_under done x low under)
      ∙ sym (xor_false (odd_of (λ c. int_le c.y low && int_le c.x x) done))
      ∙ ap (λ (b : Bool). xor (odd_of (λ c. int_le c.y low && int_le c.x x) done) b) (sym (none_until rest x low over))
      ∙ sym (odd_append (λ c. int_le c.y low && int_le c.x x) done rest) ∙ ap (odd_of (λ c. int_le c.y low && int_le c.x x)) (sym parts) ∙ sweep.left x low;
}

pub has_append : (xs ys : List Change) (h : ℤ) → HasChange (xs ++ ys) h → HasChange xs h ⊎ HasChange ys h
has_append [] ys h has = inr has
has_append (x ∷ xs) ys h (inl e) = inl (inl e)
has_append (x ∷ xs) ys h (inr has) = elim (has_append xs ys h has) [ inl a ↦ inl (inr a) | inr b ↦ inr b ]

pub append_right : (xs ys : List Change) (h : ℤ) → HasChange ys h → HasChange (xs ++ ys) h
append_right [] ys h has = has
append_right (x ∷ xs) ys h has = inr (append_right xs ys h has)

pub append_left : (xs ys : List Change) (h : ℤ) → HasChange xs h → HasChange (xs ++ ys) h
append_left [] ys h has = absurd has
append_left (x ∷ xs) ys h (inl e) = inl e
append_left (x ∷ xs) ys h (inr has) = inr (append_left xs ys h has)

pub at_height : (low : ℤ) (cs : List Change) (h : ℤ) → AreAtHeight low cs → HasChange cs h → h ≡ low
at_height low [] h level has = absurd has
at_height low (c ∷ cs) h level (inl e) = e ∙ level.0
at_height low (c ∷ cs) h level (inr has) = at_height low cs h level.1 has

pub climb_least : (low : ℤ) (cs : List Change) (h : ℤ) → ClimbFrom low cs → HasChange cs h → low ≤ℤ h
climb_least low [] h climb has = absurd has
climb_least low (c ∷ cs) h climb (inl e) = let le = climb.0 in omega (arith, ints, le, e)
climb_least low (c ∷ cs) h climb (inr has) = let le = climb.0 in let more = climb_least c.y cs h climb.1 has in omega (arith, ints, le, more)

pub climb_past : (low : ℤ) (passed rest : List Change) → AreAtHeight low passed → ClimbFrom low (passed ++ rest) → ClimbFrom low rest
climb_past low [] rest level climb = climb
climb_past low (c ∷ cs) rest level climb = climb_past low cs rest level.1 (subst (λ (z : ℤ). ClimbFrom z (cs ++ rest)) level.0 climb.1)

pub climbs : (low : ℤ) (cs : List Change) → ClimbFrom low cs → Climb cs
climbs low [] climb = tt
climbs low (c ∷ cs) climb = climb.1

pub all_above : (low : ℤ) (rest : List Change) → ClimbFrom low rest → BeginsElsewhere low rest → (h : ℤ) → HasChange rest h → low <ℤ h
all_above low [] climb elsewhere h has = absurd has
all_above low (c ∷ cs) climb elsewhere h has =
    let first : low <ℤ c.y = by_lt_z low c.y (λ lt. lt) (λ le. let ge = climb.0 in absurd (elsewhere (omega (arith, ints, le, ge)))) in
    elim has [
      | inl e ↦ omega (arith, ints, first, e)
      | inr more ↦ let le = climb_least c.y cs h climb.1 more in omega (arith, ints, first, le)
    ]
