-- Members have numbers: those of the cut shapes in which they stand.
use Rattle.std.proofs.Common.{◌≡◌, ◌⊎◌, inl, inr, ℕ, suc, ℤ, List, [], ◌∷◌, length, refl, sym, ap, subst, ◌∙◌, arith}
use Rattle.std.specs.Prelude.{Contains, slice_get, Some}
use Rattle.std.proofs.lemmas.Bool.{cases_eq}
use Rattle.std.proofs.lemmas.Int.{by_lt_z, ints}
use Rattle.std.proofs.lemmas.Option.{slice_get_within, slice_get_cases}
use Rattle.or_geom.specs.declared.shape.Point.{Point}
use Rattle.or_geom.specs.declared.shape.Rect.{Rect}
use Rattle.or_geom.specs.declared.shape.Shape.{Shape}
use Rattle.or_geom.specs.Covered.{HasCell}
use Rattle.or_geom.proofs.ListLaws.{contains_none, contains_cases, contained_at}
use Rattle.or_geom.proofs.PlaceLaws.{same_rect}
use Rattle.tech_rules.specs.declared.tech.Tech.{Tech}
use Rattle.tech_rules.proofs.LinkedLaws.{linked_itself}
use Rattle.drawn_devices.specs.declared.cut_cell.CutCell.{CutCell}
use Rattle.drawn_devices.specs.CutCell.{AreCutAndNumbered, IsCutCell}
use Rattle.drawn_devices.specs.CutShapes.{StandsIn}
use Rattle.drawn_devices.specs.Drawn.{AreNetNumbers}
use Rattle.drawn_devices.specs.Nets.{Member, Drawn, Diffused, IsMember, MembersTouch}
use Rattle.drawn_devices.specs.Numbers.{AreNumbersIn}
use Rattle.drawn_devices.proofs.MemberLaws.{some_stand, nets_alike}

-- integers are one, or they aren't
decide_int : (x y : ℤ) → (x ≡ y) ⊎ (x ≡ y → ⊥)
decide_int x y =
    by_lt_z x y (λ lt. inr (λ (e : x ≡ y). let other : y ≡ x = sym e in omega (arith, ints, lt, other)))
    (λ ge. by_lt_z y x (λ lt. inr (λ (e : x ≡ y). omega (arith, ints, lt, e))) (λ le. inl (omega (arith, ints, ge, le))))

decide_cell : (r : Rect) (cell : Point) → HasCell r cell.x cell.y ⊎ (HasCell r cell.x cell.y → ⊥)
decide_cell r cell =
    by_lt_z cell.x r.x1 (λ lt. inr (λ (h : HasCell r cell.x cell.y). let le = h.left in omega (arith, ints, lt, le)))
    (λ left. by_lt_z cell.x r.x2
    (λ right. by_lt_z cell.y r.y1 (λ lt. inr (λ (h : HasCell r cell.x cell.y). let le = h.low in omega (arith, ints, lt, le)))
    (λ low. by_lt_z cell.y r.y2
    (λ high. inl (record { left = left; right = right; low = low; high = high }))
    (λ ge. inr (λ (h : HasCell r cell.x cell.y). let lt = h.high in omega (arith, ints, lt, ge)))))
    (λ ge. inr (λ (h : HasCell r cell.x cell.y). let lt = h.right in omega (arith, ints, lt, ge))))

decide_rect : (r s : Rect) → (r ≡ s) ⊎ (r ≡ s → ⊥)
decide_rect r s = elim (decide_int r.x1 s.x1) [
  | inr off ↦ inr (λ e. off (ap (λ (z : Rect). z.x1) e))
  | inl x1 ↦ elim (decide_int r.y1 s.y1) [
    | inr off ↦ inr (λ e. off (ap (λ (z : Rect). z.y1) e))
    | inl y1 ↦ elim (decide_int r.x2 s.x2) [
      | inr off ↦ inr (λ e. off (ap (λ (z : Rect). z.x2) e))
      | inl x2 ↦ elim (decide_int r.y2 s.y2) [ inr off ↦ inr (λ e. off (ap (λ (z : Rect). z.y2) e)) | inl y2 ↦ inl (same_rect r s x1 y1 x2 y2) ]
    ]
  ]
]

decide_shape : (a s : Shape) → (a ≡ s) ⊎ (a ≡ s → ⊥)
decide_shape a s = elim (cases_eq a.layer s.layer) [
  | inr off ↦ inr (λ e. off (ap (λ (z : Shape). z.layer) e))
  | inl layer ↦ elim (decide_rect a.rect s.rect) [
    | inr off ↦ inr (λ e. off (ap (λ (z : Shape). z.rect) e))
    | inl rect ↦ inl (λ i. record { layer = layer i; rect = rect i })
  ]
]

-- a member stands in a shape, or it doesn't
pub decide_stands : (m : Member) (s : Shape) → StandsIn m s ⊎ (StandsIn m s → ⊥)
decide_stands (Drawn a) s = decide_shape a s
decide_stands (Diffused layer cell) s = elim (cases_eq layer s.layer) [
  | inr off ↦ inr (λ h. off h.0)
  | inl on ↦ elim (decide_cell s.rect cell) [ inl has ↦ inl (on, has) | inr out ↦ inr (λ h. out h.1) ]
]

-- the number of the first shape in which the member stands
abbrev pub choose : (A : Type 0) → A ⊎ (A → ⊥) → ℕ → ℕ → ℕ
choose A (inl holds) here more = here
choose A (inr fails) here more = more

abbrev pub number_in : List Shape → List ℕ → Member → ℕ
number_in [] nets m = 0
number_in (s ∷ ss) [] m = 0
number_in (s ∷ ss) (n ∷ ns) m = choose (StandsIn m s) (decide_stands m s) n (number_in ss ns m)

-- a shape in which the member stands, and its number
record IsNumberedAt (cut : List Shape) (nets : List ℕ) (m : Member) (number : ℕ) : Type 0 where
  index : ℕ
  shape : Shape
  there : slice_get cut index ≡ Some shape
  has : slice_get nets index ≡ Some number
  stands : StandsIn m shape

first_at : (s : Shape) (ss : List Shape) (n : ℕ) (ns : List ℕ) (m : Member) (t : Shape) (d : StandsIn m s ⊎ (StandsIn m s → ⊥)) → Contains (s ∷ ss) t → StandsIn m t → (Contains ss t → IsNumberedAt ss ns m (number_in ss ns m))
    → IsNumberedAt (s ∷ ss) (n ∷ ns) m (choose (StandsIn m s) d n (number_in ss ns m))
first_at s ss n ns m t (inl holds) listed stands more = record { index = 0; shape = s; there = refl; has = refl; stands = holds }
first_at s ss n ns m t (inr fails) listed stands more = elim (contains_cases s ss t listed) [
  | inl same ↦ absurd (fails (subst (StandsIn m) same stands))
  | inr later ↦ let a = more later in record { index = suc a.index; shape = a.shape; there = a.there; has = a.has; stands = a.stands }
]

numbered_at : (cut : List Shape) (nets : List ℕ) (m : Member) (t : Shape) → length nets ≡ length cut → Contains cut t → StandsIn m t → IsNumberedAt cut nets m (number_in cut nets m)
numbered_at [] nets m t sized listed stands = absurd (contains_none t listed)
numbered_at (s ∷ ss) [] m t sized listed stands = absurd (omega (arith, sized))
numbered_at (s ∷ ss) (n ∷ ns) m t sized listed stands = first_at s ss n ns m t (decide_stands m s) listed stands (λ later. numbered_at ss ns m t (omega (arith, sized)) later stands)

-- what an index of the one list has at the other
pub other_at : (cut : List Shape) (nets : List ℕ) (i : ℕ) (s : Shape) → length nets ≡ length cut → slice_get cut i ≡ Some s → (n : ℕ) × (slice_get nets i ≡ Some n)
other_at cut nets i s sized there = elim (slice_get_cases nets i).1 [
  | inl at ↦ (at.0, at.2)
  | inr past ↦ let lt = slice_get_within cut i s there in let le = past.0 in absurd (omega (arith, sized, lt, le))
]

module _ (tech : Tech) (shapes cut : List Shape) (nets : List ℕ) (cell : AreCutAndNumbered tech shapes cut nets) where
  -- two shapes in which a member stands have one number
  one_number : (m : Member) (i j k n : ℕ) (s t : Shape) → IsMember tech shapes m → slice_get cut i ≡ Some s → slice_get cut j ≡ Some t → slice_get nets i ≡ Some k → slice_get nets j ≡ Some n → StandsIn m s → StandsIn m t → k ≡ n
  one_number m i j k n s t of at_s at_t is_k is_n in_s in_t =
      let alike = nets_alike tech shapes cut cell.connections cell.are cell.by m m s t of of (contained_at cut i s at_s) (contained_at cut j t at_t) in_s in_t in
      (cell.numbered.one i j k n s t at_s at_t is_k is_n).1 (alike.0 (linked_itself (IsMember tech shapes) (MembersTouch tech) m))

  pub number_stands : (m : Member) (i : ℕ) (s : Shape) → IsMember tech shapes m → slice_get cut i ≡ Some s → StandsIn m s → slice_get nets i ≡ Some (number_in cut nets m)
  number_stands m i s of at in_s =
      let first = numbered_at cut nets m s cell.numbered.sized (contained_at cut i s at) in_s in
      let here = other_at cut nets i s cell.numbered.sized at in
      let same = one_number m i first.index here.0 (number_in cut nets m) s first.shape of at first.there here.1 first.has in_s first.stands in
      here.1 ∙ ap (λ (n : ℕ). Some n) same

  -- members have one number exactly where they are on one net
  pub numbers_are : AreNetNumbers tech shapes (number_in cut nets)
  numbers_are a b of_a of_b =
      let s = some_stand tech shapes cut cell.connections cell.are cell.by a of_a in
      let t = some_stand tech shapes cut cell.connections cell.are cell.by b of_b in
      let first = numbered_at cut nets a s.0 cell.numbered.sized s.1 s.2 in
      let second = numbered_at cut nets b t.0 cell.numbered.sized t.1 t.2 in
      let alike = nets_alike tech shapes cut cell.connections cell.are cell.by a b first.shape second.shape of_a of_b (contained_at cut first.index first.shape first.there) (contained_at cut second.index second.shape second.there) first.stands second.stands in
      let one = cell.numbered.one first.index second.index (number_in cut nets a) (number_in cut nets b) first.shape second.shape first.there second.there first.has second.has in
      (λ same. alike.1 (one.0 same), λ net. one.1 (alike.0 net))

pub cell_numbers : (cell : CutCell) → IsCutCell cell → AreNumbersIn cell (number_in cell.bins cell.nets)
cell_numbers cell cut m i s of at stands = number_stands cell.tech.now cell.shapes.now cell.bins cell.nets cut m i s of at stands
