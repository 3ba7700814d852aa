-- One end more or less among rising ones.
use Rattle.std.proofs.Common.{◌≡◌, ◌≢◌, ℕ, zero, suc, ◌<◌, ◌≤◌, List, [], ◌∷◌, length, get_or, ℤ, pos, ◌-ℤ◌, ◌≤ℤ◌, ◌<ℤ◌, Bool, true, false, not, refl, ap, sym, subst, ◌∙◌, arith}
use Rattle.std.specs.Prelude.{int_le, int_lt}
use Rattle.std.specs.List.Sorted.{IsPartitionedBy, IsPartitionPoint}
use Rattle.std.specs.Int.{int_min}
use Rattle.std.specs.List.{insert, remove}
use Rattle.std.proofs.lemmas.Int.{ints, clamps, by_lt_z}
use Rattle.rectilinear.specs.Slabs.{xor}
use Rattle.rectilinear.specs.declared.ends.End.{End}
use Rattle.rectilinear.specs.Rows.{is_odd_to, is_odd, RiseAbove, Rise, IsPlace, HasAt, IsToggled}
use Rattle.rectilinear.proofs.RowLaws.{rises}

low_below_all : (low : ℤ) (es : List End) (n : ℕ) (d : End) → RiseAbove low es → n < length es → low <ℤ (get_or es n d).x
low_below_all low [] n d rise lt = absurd (omega (arith, lt))
low_below_all low (e ∷ es) zero d rise lt = rise.0
low_below_all low (e ∷ es) (suc n) d rise lt = let more = low_below_all e.x es n d rise.1 (omega (arith, lt)) in let first = rise.0 in omega (arith, ints, more, first)

earlier_is_lower : (es : List End) (i j : ℕ) (d : End) → Rise es → i ≤ j → j < length es → (get_or es i d).x ≤ℤ (get_or es j d).x
earlier_is_lower [] i j d rise le lt = absurd (omega (arith, lt))
earlier_is_lower (e ∷ es) zero zero d rise le lt = omega (arith, ints)
earlier_is_lower (e ∷ es) zero (suc j) d rise le lt = let more = low_below_all e.x es j d rise (omega (arith, lt)) in omega (arith, ints, more)
earlier_is_lower (e ∷ es) (suc i) zero d rise le lt = absurd (omega (arith, le))
earlier_is_lower (e ∷ es) (suc i) (suc j) d rise le lt = earlier_is_lower es i j d (rises e.x es rise) (omega (arith, le)) (omega (arith, lt))

-- the ends left of one come before the others
pub left_first : (es : List End) (end : End) → Rise es → IsPartitionedBy (λ (e : End). int_lt e.x end.x) es
left_first es end rise i j d le lt left = lower_too _ _ end.x (earlier_is_lower es i j d rise le lt) left
  where
    lower_too : (a b c : ℤ) → a ≤ℤ b → int_lt b c ≡ true → int_lt a c ≡ true
    lower_too a b c le left = grind (arith, ints, le, left)

pub place_between : (es : List End) (end : End) (n : ℕ) → n ≤ length es → IsPartitionPoint (λ (e : End). int_lt e.x end.x ≡ true) (λ (e : End). int_lt e.x end.x ≡ false) es n → IsPlace es end n
place_between [] end n le point = omega (arith, le)
place_between (e ∷ es) end zero le point = from (point.1 0 e (omega arith) (omega arith))
  where
    from : int_lt e.x end.x ≡ false → end.x ≤ℤ e.x
    from h = grind (arith, ints, h)
place_between (e ∷ es) end (suc n) le point = (
  below (point.0 0 e (omega arith) (omega arith)),
  place_between es end n (omega (arith, le)) (λ k d low high. point.0 (suc k) d (omega arith) (omega (arith, high)), λ k d low high. point.1 (suc k) d (omega (arith, low)) (omega (arith, high))),
)
  where
    below : int_lt e.x end.x ≡ true → e.x <ℤ end.x
    below h = grind (arith, ints, h)

-- as IsToggled, above a low end
record IsToggledAbove (low : ℤ) (old : List End) (end : End) (new : List End) : Type 0 where
  pub rise : RiseAbove low new
  pub odd : is_odd new ≡ not (is_odd old)
  pub same : (x : ℤ) → is_odd_to new x ≡ xor (int_le end.x x) (is_odd_to old x)

swap : (a b c : Bool) → xor a (xor b c) ≡ xor b (xor a c)
swap true true c = refl
swap true false c = refl
swap false true c = refl
swap false false c = refl

cancel : (a c : Bool) → c ≡ xor a (xor a c)
cancel true true = refl
cancel true false = refl
cancel false c = refl

pub twice_not : (c : Bool) → c ≡ not (not c)
twice_not true = refl
twice_not false = refl

rise_lower : (low high : ℤ) (es : List End) → low <ℤ high → RiseAbove high es → RiseAbove low es
rise_lower low high [] lt rise = tt
rise_lower low high (e ∷ es) lt rise = (omega (arith, ints, rise.0), rise.1)

inserted : (low : ℤ) (es : List End) (end : End) (n : ℕ) → RiseAbove low es → low <ℤ end.x → IsPlace es end n → ((e : End) → n < length es → e ≡ get_or es n e → e.x ≢ end.x) → IsToggledAbove low es end (insert es n end)
inserted low [] end zero rise lt place other = record { rise = (lt, tt); odd = refl; same = λ x. refl }
inserted low [] end (suc n) rise lt place other = absurd (omega arith)
inserted low (e ∷ es) end zero rise lt place other =
    let ne = other e (omega arith) refl in
    record { rise = (lt, (strict e.x end.x ne place, rise.1)); odd = refl; same = λ x. refl }
  where
    strict : (a b : ℤ) → a ≢ b → b ≤ℤ a → b <ℤ a
    strict a b ne le = by_lt_z b a (λ l. l) (λ g. absurd (ne (omega (arith, ints))))
inserted low (e ∷ es) end (suc n) rise lt place other =
    let more = inserted e.x es end n rise.1 place.0 place.1 (λ f l is. other f (omega arith) is) in
    record { rise = (rise.0, more.rise); odd = ap not more.odd; same = λ x. ap (λ (b : Bool). xor (int_le e.x x) b) (more.same x) ∙ swap (int_le e.x x) (int_le end.x x) (is_odd_to es x) }

removed : (low : ℤ) (es : List End) (end : End) (n : ℕ) (e : End) → RiseAbove low es → n < length es → e ≡ get_or es n e → e.x ≡ end.x → IsToggledAbove low es end (remove es n)
removed low [] end n e rise lt is at = absurd (omega arith)
removed low (f ∷ fs) end zero e rise lt is at =
    let same_x : f.x ≡ end.x = ap (λ (g : End). g.x) (sym is) ∙ at in
    record { rise = rise_lower low f.x fs rise.0 rise.1; odd = twice_not (is_odd fs); same = λ x. rw same_x (cancel (int_le end.x x) (is_odd_to fs x)) }
removed low (f ∷ fs) end (suc n) e rise lt is at =
    let more = removed f.x fs end n e rise.1 (omega arith) is at in
    record { rise = (rise.0, more.rise); odd = ap not more.odd; same = λ x. ap (λ (b : Bool). xor (int_le f.x x) b) (more.same x) ∙ swap (int_le f.x x) (int_le end.x x) (is_odd_to fs x) }

-- some low end
low_of : (es : List End) (end : End) → ℤ
low_of [] end = end.x -ℤ pos 1
low_of (e ∷ es) end = int_min e.x end.x -ℤ pos 1

low_rise : (es : List End) (end : End) → Rise es → RiseAbove (low_of es end) es
unfolding low_of
low_rise [] end rise = tt
low_rise (e ∷ es) end rise = (omega (arith, ints, clamps), rise)

low_below : (es : List End) (end : End) → low_of es end <ℤ end.x
unfolding low_of
low_below [] end = omega (arith, ints)
low_below (e ∷ es) end = omega (arith, ints, clamps)

toggled_of : (low : ℤ) (old : List End) (end : End) (new : List End) → IsToggledAbove low old end new → IsToggled old end new
toggled_of low old end new t = record { rise = rises low new t.rise; odd = t.odd; same = t.same }

pub insert_toggles : (es : List End) (end : End) (n : ℕ) → Rise es → IsPlace es end n → ((e : End) → n < length es → e ≡ get_or es n e → e.x ≢ end.x) → IsToggled es end (insert es n end)
insert_toggles es end n rise place other = toggled_of (low_of es end) es end _ (inserted (low_of es end) es end n (low_rise es end rise) (low_below es end) place other)

pub remove_toggles : (es : List End) (end : End) (n : ℕ) (e : End) → Rise es → n < length es → e ≡ get_or es n e → e.x ≡ end.x → IsToggled es end (remove es n)
remove_toggles es end n e rise lt is at = toggled_of (low_of es end) es end _ (removed (low_of es end) es end n e (low_rise es end rise) lt is at)

pub toggle_in : (old new : List End) (end : End) (n : ℕ) → Rise old → IsPlace old end n → (HasAt old n end → ⊥) → new ≡ insert old n end → IsToggled old end new
toggle_in old new end n rise place other e = subst (λ (es : List End). IsToggled old end es) (sym e) (insert_toggles old end n rise place (λ f lt is at. other (f, lt, is, at)))

pub toggle_out : (old new : List End) (end : End) (n : ℕ) → Rise old → HasAt old n end → new ≡ remove old n → IsToggled old end new
toggle_out old new end n rise has e = subst (λ (es : List End). IsToggled old end es) (sym e) (remove_toggles old end n has.0 rise has.1 has.2 has.3)

pub refuted : {P : Type 0} (t : Bool) → (t ≡ true → P) × (P → t ≡ true) → t ≡ false → P → ⊥
refuted t h f p = let yes = h.1 p in absurd cc

-- toggling is possible
toggle_above : (low : ℤ) (es : List End) (end : End) → RiseAbove low es → low <ℤ end.x → (new : List End) × IsToggledAbove low es end new
toggle_above low [] end rise lt = (end ∷ [], record { rise = (lt, tt); odd = refl; same = λ x. refl })
toggle_above low (e ∷ es) end rise lt =
    by_lt_z end.x e.x
    (λ under. (end ∷ e ∷ es, record { rise = (lt, (under, rise.1)); odd = refl; same = λ x. refl }))
    (λ ge. by_lt_z e.x end.x
    (λ over. let more = toggle_above e.x es end rise.1 over in
    (e ∷ more.0, record { rise = (rise.0, more.1.rise); odd = ap not more.1.odd; same = λ x. ap (λ (b : Bool). xor (int_le e.x x) b) (more.1.same x) ∙ swap (int_le e.x x) (int_le end.x x) (is_odd_to es x) }))
    (λ le. (es, removed low (e ∷ es) end 0 e rise (omega arith) refl (omega (arith, ints)))))

pub toggle_some : (es : List End) (end : End) → Rise es → (new : List End) × IsToggled es end new
toggle_some es end rise = let t = toggle_above (low_of es end) es end (low_rise es end rise) (low_below es end) in (t.0, toggled_of (low_of es end) es end t.0 t.1)
