-- Boxes by number, put one after another.
use Rattle.std.proofs.Common.{◌≡◌, ◌≢◌, ◌⊎◌, inl, inr, ℕ, zero, suc, ◌+◌, ◌<◌, ◌≤◌, Bool, true, false, ◌==◌, List, [], ◌∷◌, ◌++◌, length, get_or, set, get_or-set_same, get_or-set_other, take, drop, map, Option, Some, refl, sym, ap, subst, ◌∙◌, arith, if◌then◌else◌}
use Rattle.std.specs.Prelude.{Contains, slice_get}
use Rattle.std.proofs.lemmas.Bool.{cases_eq, cases_lt, eq-eqb, eqb-true}
use Rattle.std.proofs.lemmas.List.{take_more, take_all, length-take, length-append, length-set, append-nil}
use Rattle.std.proofs.lemmas.Option.{same_Some}
use Rattle.or_geom.specs.declared.shape.Rect.{Rect}
use Rattle.or_geom.specs.declared.shape.Shape.{Shape}
use Rattle.or_geom.proofs.ListLaws.{contains_none, contains_cases, contains_first, contains_later, never_empty, rest_at}
use Rattle.net_extractor.specs.FirstAppearance.{AppearFrom}
use Rattle.drawn_devices.specs.Groups.{boxes_with, group_at, IsCounted, IsOpened, IsPut, AreBoxGroups}

-- a shape with this number whose box is this one
pub record IsBoxAt (number : ℕ) (shapes : List Shape) (numbers : List ℕ) (index : ℕ) (shape : Shape) : Type 0 where
  pub there : slice_get shapes index ≡ Some shape
  pub has : slice_get numbers index ≡ Some number

with_first : (k : ℕ) (s : Shape) (ss : List Shape) (n : ℕ) (ns : List ℕ) (b : Bool) → (n == k) ≡ b → n ≡ k → Contains (if b then s.rect ∷ boxes_with k ss ns else boxes_with k ss ns) s.rect
with_first k s ss n ns true e same = contains_first s.rect (boxes_with k ss ns)
with_first k s ss n ns false e same = let yes : (n == k) ≡ true = eq-eqb n k same in absurd cc

with_later : (k : ℕ) (s : Shape) (ss : List Shape) (n : ℕ) (ns : List ℕ) (r : Rect) (b : Bool) → Contains (boxes_with k ss ns) r → Contains (if b then s.rect ∷ boxes_with k ss ns else boxes_with k ss ns) r
with_later k s ss n ns r true h = contains_later s.rect (boxes_with k ss ns) r h
with_later k s ss n ns r false h = h

-- the box of a shape with the number is among those with it
pub box_with : (k : ℕ) (shapes : List Shape) (numbers : List ℕ) (i : ℕ) (s : Shape) → IsBoxAt k shapes numbers i s → Contains (boxes_with k shapes numbers) s.rect
box_with k [] numbers i s at = let none = at.there in absurd cc
box_with k (t ∷ ts) [] i s at = let none = at.has in absurd cc
box_with k (t ∷ ts) (n ∷ ns) zero s at =
    let same : t ≡ s = same_Some t s at.there in
    let is : n ≡ k = same_Some n k at.has in
    subst (λ (u : Shape). Contains (boxes_with k (t ∷ ts) (n ∷ ns)) u.rect) same (with_first k t ts n ns (n == k) refl is)
box_with k (t ∷ ts) (n ∷ ns) (suc i) s at = with_later k t ts n ns s.rect (n == k) (box_with k ts ns i s (record { there = at.there; has = at.has }))

-- and they are of such shapes
pub record IsOfShape (k : ℕ) (shapes : List Shape) (numbers : List ℕ) (r : Rect) : Type 0 where
  pub index : ℕ
  pub shape : Shape
  pub at : IsBoxAt k shapes numbers index shape
  pub is : shape.rect ≡ r

later_shape : (k : ℕ) (s : Shape) (ss : List Shape) (n : ℕ) (ns : List ℕ) (r : Rect) → IsOfShape k ss ns r → IsOfShape k (s ∷ ss) (n ∷ ns) r
later_shape k s ss n ns r of = record { index = suc of.index; shape = of.shape; at = record { there = of.at.there; has = of.at.has }; is = of.is }

of_first : (k : ℕ) (s : Shape) (ss : List Shape) (n : ℕ) (ns : List ℕ) (r : Rect) (b : Bool) → (n == k) ≡ b → (Contains (boxes_with k ss ns) r → IsOfShape k ss ns r) → Contains (if b then s.rect ∷ boxes_with k ss ns else boxes_with k ss ns) r
    → IsOfShape k (s ∷ ss) (n ∷ ns) r
of_first k s ss n ns r true e more h = elim (contains_cases s.rect (boxes_with k ss ns) r h) [
  | inl same ↦ record { index = 0; shape = s; at = record { there = refl; has = ap (λ (m : ℕ). Some m) (eqb-true n k e) }; is = sym same }
  | inr later ↦ later_shape k s ss n ns r (more later)
]
of_first k s ss n ns r false e more h = later_shape k s ss n ns r (more h)

pub of_shape : (k : ℕ) (shapes : List Shape) (numbers : List ℕ) (r : Rect) → Contains (boxes_with k shapes numbers) r → IsOfShape k shapes numbers r
of_shape k [] numbers r h = absurd (contains_none r h)
of_shape k (s ∷ ss) [] r h = absurd (contains_none r h)
of_shape k (s ∷ ss) (n ∷ ns) r h = of_first k s ss n ns r (n == k) refl (of_shape k ss ns r) h

-- the first box is that of the first shape with the number
pub record IsFirstShape (k : ℕ) (shapes : List Shape) (numbers : List ℕ) (r : Rect) : Type 0 where
  pub index : ℕ
  pub shape : Shape
  pub at : IsBoxAt k shapes numbers index shape
  pub is : shape.rect ≡ r
  pub before : (j : ℕ) (t : Shape) → IsBoxAt k shapes numbers j t → index ≤ j

first_behind : (k : ℕ) (s : Shape) (ss : List Shape) (n : ℕ) (ns : List ℕ) (r : Rect) → n ≢ k → (f : IsFirstShape k ss ns r) (j : ℕ) (t : Shape) → IsBoxAt k (s ∷ ss) (n ∷ ns) j t → suc f.index ≤ j
first_behind k s ss n ns r off f zero t at = absurd (off (same_Some n k at.has))
first_behind k s ss n ns r off f (suc j) t at = let le = f.before j t (record { there = at.there; has = at.has }) in omega (arith, le)

later_first : (k : ℕ) (s : Shape) (ss : List Shape) (n : ℕ) (ns : List ℕ) (r : Rect) → n ≢ k → IsFirstShape k ss ns r → IsFirstShape k (s ∷ ss) (n ∷ ns) r
later_first k s ss n ns r off f = record {
  index = suc f.index;
  shape = f.shape;
  at = record { there = f.at.there; has = f.at.has };
  is = f.is;
  before = λ j t at. first_behind k s ss n ns r off f j t at;
}

first_with : (k : ℕ) (s : Shape) (ss : List Shape) (n : ℕ) (ns : List ℕ) (r : Rect) (rest : List Rect) (b : Bool) → (n == k) ≡ b → ((more : List Rect) → boxes_with k ss ns ≡ r ∷ more → IsFirstShape k ss ns r)
    → (if b then s.rect ∷ boxes_with k ss ns else boxes_with k ss ns) ≡ r ∷ rest → IsFirstShape k (s ∷ ss) (n ∷ ns) r
first_with k s ss n ns r rest true e more is = record {
  index = 0;
  shape = s;
  at = record { there = refl; has = ap (λ (m : ℕ). Some m) (eqb-true n k e) };
  is = cc;
  before = λ j t at. omega arith;
}
first_with k s ss n ns r rest false e more is = later_first k s ss n ns r (λ same. let yes : (n == k) ≡ true = eq-eqb n k same in let clash : true ≡ false = sym yes ∙ e in cc) (more rest is)

pub first_shape : (k : ℕ) (shapes : List Shape) (numbers : List ℕ) (r : Rect) (rest : List Rect) → boxes_with k shapes numbers ≡ r ∷ rest → IsFirstShape k shapes numbers r
first_shape k [] numbers r rest is = absurd cc
first_shape k (s ∷ ss) [] r rest is = absurd cc
first_shape k (s ∷ ss) (n ∷ ns) r rest is = first_with k s ss n ns r rest (n == k) refl (λ more e. first_shape k ss ns r more e) is

-- one shape more, with its number
with_one : (k : ℕ) (s : Shape) (n : ℕ) → boxes_with k (s ∷ []) (n ∷ []) ≡ (if n == k then s.rect ∷ [] else [])
with_one k s n = refl

both_more : (k : ℕ) (s t : Shape) (ss : List Shape) (m n : ℕ) (ns : List ℕ) (b : Bool) → boxes_with k (ss ++ t ∷ []) (ns ++ n ∷ []) ≡ boxes_with k ss ns ++ boxes_with k (t ∷ []) (n ∷ [])
    → (if b then s.rect ∷ boxes_with k (ss ++ t ∷ []) (ns ++ n ∷ []) else boxes_with k (ss ++ t ∷ []) (ns ++ n ∷ [])) ≡ (if b then s.rect ∷ boxes_with k ss ns else boxes_with k ss ns) ++ boxes_with k (t ∷ []) (n ∷ [])
both_more k s t ss m n ns true e = ap (λ (l : List Rect). s.rect ∷ l) e
both_more k s t ss m n ns false e = e

pub with_more : (k : ℕ) (shapes : List Shape) (numbers : List ℕ) (t : Shape) (n : ℕ) → length numbers ≡ length shapes → boxes_with k (shapes ++ t ∷ []) (numbers ++ n ∷ []) ≡ boxes_with k shapes numbers ++ boxes_with k (t ∷ []) (n ∷ [])
with_more k [] [] t n sized = refl
with_more k [] (m ∷ ms) t n sized = absurd (omega (arith, sized))
with_more k (s ∷ ss) [] t n sized = absurd (omega (arith, sized))
with_more k (s ∷ ss) (m ∷ ms) t n sized = both_more k s t ss m n ms (m == k) (with_more k ss ms t n (omega (arith, sized)))

with_other : (k : ℕ) (s : Shape) (n : ℕ) (b : Bool) → (n == k) ≡ b → n ≢ k → (if b then s.rect ∷ [] else []) ≡ []
with_other k s n true e off = absurd (off (eqb-true n k e))
with_other k s n false e off = refl

with_own : (k : ℕ) (s : Shape) (n : ℕ) (b : Bool) → (n == k) ≡ b → n ≡ k → (if b then s.rect ∷ [] else []) ≡ s.rect ∷ []
with_own k s n true e same = refl
with_own k s n false e same = let yes : (n == k) ≡ true = eq-eqb n k same in let clash : true ≡ false = sym yes ∙ e in absurd cc

-- the groups of the first shapes
pub record AreFirstGroups (shapes : List Shape) (numbers : List ℕ) (i : ℕ) (groups : List (List Rect)) : Type 0 where
  pub each : (k : ℕ) → group_at groups k ≡ boxes_with k (take i shapes) (take i numbers)
  pub some : (k : ℕ) → k < length groups → group_at groups k ≢ []
  pub next : AppearFrom (length groups) (map (λ (n : ℕ). Some n) (drop i numbers))

pub groups_begin : (shapes : List Shape) (numbers : List ℕ) (groups : List (List Rect)) → groups ≡ [] → AppearFrom 0 (map (λ (n : ℕ). Some n) numbers) → AreFirstGroups shapes numbers 0 groups
groups_begin shapes numbers groups none appear = subst (AreFirstGroups shapes numbers 0) (sym none) (record { each = λ k. refl; some = λ k lt. absurd (omega (arith, lt)); next = appear })

-- the number of the next shape is that of a group or the next
pub put_number : (shapes : List Shape) (numbers : List ℕ) (i n : ℕ) (groups : List (List Rect)) → i < length numbers → n ≡ get_or numbers i n → AreFirstGroups shapes numbers i groups → n ≤ length groups
put_number shapes numbers i n groups lt is a =
    let here : AppearFrom (length groups) (map (λ (m : ℕ). Some m) (n ∷ drop (i + 1) numbers)) = subst (λ (l : List ℕ). AppearFrom (length groups) (map (λ (m : ℕ). Some m) l)) (rest_at numbers i n lt is) a.next in
    elim here [ inl seen ↦ let less = seen.0 in omega (arith, less) | inr fresh ↦ let e = fresh.0 in omega (arith, e) ]

next_more : (n count more : ℕ) (rest : List (Option ℕ)) → ((n < count) × (more ≡ count)) ⊎ ((n ≡ count) × (more ≡ count + 1)) → ((n < count) × AppearFrom count rest) ⊎ ((n ≡ count) × AppearFrom (count + 1) rest) → AppearFrom more rest
next_more n count more rest (inl old) (inl seen) = subst (λ (m : ℕ). AppearFrom m rest) (sym old.1) seen.1
next_more n count more rest (inl old) (inr fresh) = let lt = old.0 in let e = fresh.0 in absurd (omega (arith, lt, e))
next_more n count more rest (inr new) (inl seen) = let e = new.0 in let lt = seen.0 in absurd (omega (arith, lt, e))
next_more n count more rest (inr new) (inr fresh) = subst (λ (m : ℕ). AppearFrom m rest) (sym new.1) fresh.1

below_more : (n count more k : ℕ) → ((n < count) × (more ≡ count)) ⊎ ((n ≡ count) × (more ≡ count + 1)) → k < more → (k < count) ⊎ (k ≡ n)
below_more n count more k (inl old) lt = let e = old.1 in inl (omega (arith, e, lt))
below_more n count more k (inr new) lt = let e = new.1 in let is = new.0 in elim (cases_lt k count) [ inl less ↦ inl less | inr ge ↦ inr (omega (arith, e, is, lt, ge)) ]

pub groups_more : (shapes : List Shape) (numbers : List ℕ) (i n : ℕ) (s : Shape) (old new : List (List Rect)) → length numbers ≡ length shapes → i < length shapes → s ≡ get_or shapes i s → n ≡ get_or numbers i n → IsPut s.rect n old new
    → AreFirstGroups shapes numbers i old → AreFirstGroups shapes numbers (i + 1) new
groups_more shapes numbers i n s old new sized lt is_s is_n put a =
    let inside : i < length numbers = omega (arith, sized, lt) in
    let first : take (i + 1) shapes ≡ take i shapes ++ s ∷ [] = take_more shapes i s lt ∙ ap (λ (x : Shape). take i shapes ++ x ∷ []) (sym is_s) in
    let second : take (i + 1) numbers ≡ take i numbers ++ n ∷ [] = take_more numbers i n inside ∙ ap (λ (x : ℕ). take i numbers ++ x ∷ []) (sym is_n) in
    let even : length (take i numbers) ≡ length (take i shapes) = simp length-take (omega (arith, sized)) in
    let grown : (k : ℕ) → boxes_with k (take (i + 1) shapes) (take (i + 1) numbers) ≡ boxes_with k (take i shapes) (take i numbers) ++ boxes_with k (s ∷ []) (n ∷ []) = λ k.
    ap (λ (l : List Shape). boxes_with k l (take (i + 1) numbers)) first ∙ (ap (λ (l : List ℕ). boxes_with k (take i shapes ++ s ∷ []) l) second ∙ with_more k (take i shapes) (take i numbers) s n even) in
    record {
      each = λ k. elim (cases_eq k n) [
        | inl same ↦
            subst (λ (m : ℕ). group_at new m ≡ boxes_with m (take (i + 1) shapes) (take (i + 1) numbers)) (sym same)
            (put.here ∙ (ap (λ (l : List Rect). l ++ s.rect ∷ []) (a.each n) ∙ (ap (λ (l : List Rect). boxes_with n (take i shapes) (take i numbers) ++ l) (sym (with_own n s n (n == n) refl refl)) ∙ sym (grown n))))
        | inr other ↦
            put.other k other ∙ (a.each k ∙ (sym (append-nil (boxes_with k (take i shapes) (take i numbers))) ∙ (ap (λ (l : List Rect). boxes_with k (take i shapes) (take i numbers) ++ l) (sym (with_other k s n (n == k) refl (λ e. other (sym e)))) ∙ sym (grown k))))
      ];
      some = λ k less none. elim (cases_eq k n) [
        | inl same ↦ never_empty (group_at old n) s.rect [] (sym put.here ∙ subst (λ (m : ℕ). group_at new m ≡ []) same none)
        | inr other ↦ elim (below_more n (length old) (length new) k put.count less) [
          | inl earlier ↦ a.some k earlier (sym (put.other k other) ∙ none)
          | inr same ↦ other same
        ]
      ];
      next = next_more n (length old) (length new) (map (λ (m : ℕ). Some m) (drop (i + 1) numbers)) put.count (subst (λ (l : List ℕ). AppearFrom (length old) (map (λ (m : ℕ). Some m) l)) (rest_at numbers i n inside is_n) a.next);
    }

pub groups_all : (shapes : List Shape) (numbers : List ℕ) (i : ℕ) (groups : List (List Rect)) → length numbers ≡ length shapes → length shapes ≤ i → AreFirstGroups shapes numbers i groups → AreBoxGroups shapes numbers groups
groups_all shapes numbers i groups sized le a = record {
  each = λ k. a.each k ∙ (ap (λ (l : List Shape). boxes_with k l (take i numbers)) (take_all i shapes le) ∙ ap (λ (l : List ℕ). boxes_with k shapes l) (take_all i numbers (omega (arith, sized, le))));
  some = a.some;
}

-- a group that is there
pub opened_there : (number : ℕ) (groups : List (List Rect)) → number < length groups → IsOpened number groups groups
opened_there number groups lt = record { same = λ k. refl; inside = lt; count = inl (lt, refl) }

pushed_same : (groups : List (List Rect)) (k : ℕ) → group_at (groups ++ [] ∷ []) k ≡ group_at groups k
pushed_same [] zero = refl
pushed_same [] (suc k) = refl
pushed_same (g ∷ gs) zero = refl
pushed_same (g ∷ gs) (suc k) = pushed_same gs k

-- the next one
pub opened_next : (number : ℕ) (old new : List (List Rect)) → number ≤ length old → length old ≤ number → new ≡ old ++ [] ∷ [] → IsOpened number old new
opened_next number old new le ge is =
    let sized : length new ≡ length old + 1 = ap length is ∙ length-append old ([] ∷ []) in
    record {
      same = λ k. ap (λ (l : List (List Rect)). group_at l k) is ∙ pushed_same old k;
      inside = omega (arith, sized, le);
      count = inr (omega (arith, le, ge), sized);
    }

-- a box more in the group
pub put_in : (rect : Rect) (number : ℕ) (old opened : List (List Rect)) (grown : List Rect) → IsOpened number old opened → grown ≡ group_at opened number ++ rect ∷ [] → IsPut rect number old (set opened number grown)
put_in rect number old opened grown o is = record {
  here = get_or-set_same opened number grown [] o.inside ∙ (is ∙ ap (λ (l : List Rect). l ++ rect ∷ []) (o.same number));
  other = λ k off. get_or-set_other opened number k grown [] off ∙ o.same k;
  count = subst (λ (n : ℕ). IsCounted number (length old) n) (sym (length-set opened number grown)) o.count;
}
