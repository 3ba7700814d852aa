-- Branches stand at one place or keep the wires' space, so that a box that they cover in a row is no wider than a wire.
use Rattle.std.proofs.Common.{◌≡◌, ◌⊎◌, inl, inr, ◌∙◌, ℕ, ◌≤◌, ℤ, pos, ◌+ℤ◌, ◌*ℤ◌, ◌≤ℤ◌, ◌<ℤ◌, ap, subst, arith}
use Rattle.std.specs.Prelude.{slice_index}
use Rattle.std.proofs.lemmas.Bool.{cases_lt}
use Rattle.std.proofs.lemmas.Int.{ints, by_lt_z}
use Rattle.or_geom.specs.declared.shape.Rect.{Rect}
use Rattle.or_geom.specs.declared.shape.Shape.{Shape}
use Rattle.tech_rules.specs.declared.tech.Wire.{Wire}
use Rattle.wire_drawing.specs.Drawing.{pitch}
use Rattle.sram_netlist.specs.Organization.{Organization}
use Rattle.macro_layout.specs.LayoutKit.{LayoutKit}
use Rattle.macro_layout.specs.Places.{Floorplan, bank_x, columns_x}
use Rattle.macro_layout.specs.Floorplan.{Tracks}
use Rattle.macro_layout.specs.Wires.{trunk_x}
use Rattle.good_wires.specs.Drawn.{IsDrawnMemory, IsDrawnWire}
use Rattle.good_wires.proofs.LevelLaws.{Levels, levels, Sides, sides, IsRailAt}
use Rattle.good_wires.proofs.PinLaws.{IsInColumns}
use Rattle.good_wires.proofs.ClearLaws.{banks_left}
use Rattle.good_wires.proofs.SecondLaws as second
use Rattle.good_wires.proofs.SecondLaws.{on_second}
use Rattle.good_wires.proofs.FourthLaws as fourth
use Rattle.good_wires.proofs.FourthLaws.{on_fourth}

-- from left to right they are one, or a space apart
abbrev pub AreOneOrApart : ℤ → Rect → Rect → Type 0
AreOneOrApart space a b = ((a.x1 ≡ b.x1) × (a.x2 ≡ b.x2)) ⊎ (((a.x2 +ℤ space) ≤ℤ b.x1) ⊎ ((b.x2 +ℤ space) ≤ℤ a.x1))

-- where spans that are one or keep a space, and are no longer than so much, hold each number of a span, that is no longer either
pub span_narrow : (space width b1 b2 : ℤ) (Covers : Shape → Type 0) (low high : Shape → ℤ) → pos 1 ≤ℤ space → b1 <ℤ b2 → ((s : Shape) → Covers s → (low s <ℤ high s) × (high s ≤ℤ (low s +ℤ width)))
    → ((s u : Shape) → Covers s → Covers u → ((low s ≡ low u) × (high s ≡ high u)) ⊎ (((high s +ℤ space) ≤ℤ low u) ⊎ ((high u +ℤ space) ≤ℤ low s))) → ((x : ℤ) → b1 ≤ℤ x → x <ℤ b2 → (s : Shape) × Covers s × (low s ≤ℤ x) × (x <ℤ high s)) → b2 ≤ℤ (b1 +ℤ width)
span_narrow space width b1 b2 Covers low high some long sizes apart covered =
    let first = covered b1 (same b1) long in
    by_lt_z (high first.0) b2
    (λ lt. absurd (next first.0 first.1 first.2 first.3 (covered (high first.0) (less b1 (high first.0) first.3) lt)))
    (λ ge. end (low first.0) (high first.0) ge (sizes first.0 first.1).1 first.2)
  where
    same : (z : ℤ) → z ≤ℤ z
    same z = omega (arith, ints)

    less : (a b : ℤ) → a <ℤ b → a ≤ℤ b
    less a b lt = omega (arith, ints, lt)

    end : (f1 f2 : ℤ) → b2 ≤ℤ f2 → f2 ≤ℤ (f1 +ℤ width) → f1 ≤ℤ b1 → b2 ≤ℤ (b1 +ℤ width)
    end f1 f2 a c d = omega (arith, ints, a, c, d)

    next : (a : Shape) → Covers a → low a ≤ℤ b1 → b1 <ℤ high a → (b : Shape) × Covers b × (low b ≤ℤ high a) × (high a <ℤ high b) → ⊥
    next a is from to (b, other, under, over) = go (apart a b is other) (sizes a is).0 (sizes b other).0 where
      go : ((low a ≡ low b) × (high a ≡ high b)) ⊎ (((high a +ℤ space) ≤ℤ low b) ⊎ ((high b +ℤ space) ≤ℤ low a)) → low a <ℤ high a → low b <ℤ high b → ⊥
      go (inl e) w v = let q = e.1 in omega (arith, ints, q, over)
      go (inr (inl le)) w v = omega (arith, ints, le, under, some)
      go (inr (inr le)) w v = omega (arith, ints, le, w, over, some)

-- so a box is no wider than a wire where such wires cover each cell of a row of it
pub row_narrow : (space width : ℤ) (box : Rect) (Covers : Shape → Type 0) → pos 1 ≤ℤ space → ((s : Shape) → Covers s → s.rect.x2 ≤ℤ (s.rect.x1 +ℤ width)) → ((s u : Shape) → Covers s → Covers u → AreOneOrApart space s.rect u.rect)
    → ((x : ℤ) → box.x1 ≤ℤ x → x <ℤ box.x2 → (s : Shape) × Covers s × (s.rect.x1 ≤ℤ x) × (x <ℤ s.rect.x2)) → box.x2 ≤ℤ (box.x1 +ℤ width)
row_narrow space width box Covers some narrow apart covered = span_narrow space width box.x1 box.x2 Covers (λ s. s.rect.x1) (λ s. s.rect.x2) some box.wide (λ s is. (s.rect.wide, narrow s is)) apart covered

-- columns of a channel's pins: a pitch apart in one bank, and further in two
pub bank_pins : (wire : Wire) (x y w q v row col bank : ℤ) → (x +ℤ wire.width) ≤ℤ (bank +ℤ q) → (q +ℤ bank) ≤ℤ v → (col +ℤ v) ≤ℤ y → pitch wire ≤ℤ row → row ≤ℤ col → pos 1 ≤ℤ wire.width → ((x +ℤ wire.width) +ℤ wire.space) ≤ℤ y
bank_pins wire x y w q v row col bank h g k r t e = omega (arith, ints, h, g, k, r, t, e)

one_place : (wire : Wire) (a b : Rect) (x y : ℤ) → a.x1 ≡ x → a.x2 ≡ x +ℤ wire.width → b.x1 ≡ y → b.x2 ≡ y +ℤ wire.width → x ≡ y → AreOneOrApart wire.space a b
one_place wire a b x y p q r s e = inl (omega (arith, ints, p, r, e), omega (arith, ints, q, s, e))

left_of : (wire : Wire) (a b : Rect) (x y : ℤ) → a.x2 ≡ x +ℤ wire.width → b.x1 ≡ y → ((x +ℤ wire.width) +ℤ wire.space) ≤ℤ y → AreOneOrApart wire.space a b
left_of wire a b x y p q le = inr (inl (omega (arith, ints, p, q, le)))

right_of : (wire : Wire) (a b : Rect) (x y : ℤ) → b.x2 ≡ y +ℤ wire.width → a.x1 ≡ x → ((y +ℤ wire.width) +ℤ wire.space) ≤ℤ x → AreOneOrApart wire.space a b
right_of wire a b x y p q le = inr (inr (omega (arith, ints, p, q, le)))

-- pins that are one or a pitch apart
pub at_pins : (wire : Wire) (a b : Rect) (n m : ℕ) (x y q : ℤ) → a.x1 ≡ x +ℤ q → a.x2 ≡ (x +ℤ q) +ℤ wire.width → b.x1 ≡ y +ℤ q → b.x2 ≡ (y +ℤ q) +ℤ wire.width → ((n ≡ m) × (x ≡ y)) ⊎ (((x +ℤ pitch wire) ≤ℤ y) ⊎ ((y +ℤ pitch wire) ≤ℤ x)) → AreOneOrApart wire.space a b
at_pins wire a b n m x y q p r s t (inl e) = one_place wire a b (x +ℤ q) (y +ℤ q) p r s t (let z = e.1 in omega (arith, ints, z))
at_pins wire a b n m x y q p r s t (inr (inl le)) = left_of wire a b (x +ℤ q) (y +ℤ q) r s (omega (arith, ints, le))
at_pins wire a b n m x y q p r s t (inr (inr le)) = right_of wire a b (x +ℤ q) (y +ℤ q) t p (omega (arith, ints, le))

module _ (plan : Organization) (kit : LayoutKit) (wire : Wire) (tracks : Tracks) (f : Floorplan) (m : IsDrawnMemory plan kit wire tracks f) where
  l : Levels plan kit wire f
  l = levels plan kit wire tracks f m.laid.sizes m.stands

  s_of : Sides plan kit wire f
  s_of = sides plan kit wire tracks f m.laid.sizes m.stands

  abbrev offset : ℕ → ℤ
  offset b = pos b *ℤ f.bank_width

  plain : (x : ℤ) → x ≡ x +ℤ pos 0
  plain x = omega (arith, ints)

  -- On the second metal

  pub record IsInRow (s : Shape) (y : ℤ) : Type 0 where
    pub before : s.rect.x2 ≤ℤ trunk_x plan kit wire f
    pub low : s.rect.y1 ≤ℤ y
    pub high : y <ℤ s.rect.y2

  no_trunk : (s : Shape) (y : ℤ) → IsInRow s y → second.IsTrunk plan kit wire tracks f m s → ⊥
  no_trunk s y r t = go s.rect.x1 s.rect.x2 t.x (trunk_x plan kit wire f) t.at s.rect.wide r.before t.drawn.left where
    go : (x1 x2 x t : ℤ) → (x ≡ t) ⊎ (x ≡ t +ℤ pitch wire) → x1 <ℤ x2 → x2 ≤ℤ t → x1 ≡ x → ⊥
    go x1 x2 x t (inl e) wide le is = omega (arith, ints, e, wide, le, is)
    go x1 x2 x t (inr e) wide le is = let w = m.laid.sizes.width.from in let sp = m.laid.sizes.space.from in omega (arith, ints, e, wide, le, is, w, sp)

  main_column : (s u : Shape) (y : ℤ) → IsInRow s y → IsInRow u y → second.IsMainBranch plan kit wire tracks f m s → second.IsColumnBranch plan kit wire tracks f m u → ⊥
  main_column s u y r q a c =
      let h = r.high in
      let low = q.low in
      let ah = a.drawn.high in
      let cl = c.drawn.low in
      let p = a.under in
      let ls = l.sense in
      let lc = l.channel in
      let sp = m.laid.sizes.space.from in
      omega (arith, ints, h, low, ah, cl, p, ls, lc, sp)

  -- pins of one bank, or of two
  in_banks : (a b : Rect) (i j n k : ℕ) (x y : ℤ) → a.x1 ≡ x +ℤ offset i → a.x2 ≡ (x +ℤ offset i) +ℤ wire.width → b.x1 ≡ y +ℤ offset j → b.x2 ≡ (y +ℤ offset j) +ℤ wire.width → IsInColumns plan kit wire f i (x +ℤ offset i) → IsInColumns plan kit wire f j (y +ℤ offset j)
      → ((n ≡ k) × (x ≡ y)) ⊎ (((x +ℤ pitch wire) ≤ℤ y) ⊎ ((y +ℤ pitch wire) ≤ℤ x)) → AreOneOrApart wire.space a b
  in_banks a b i j n k x y p r s t at to pins = elim (cases_lt i j) [
    | inl lt ↦ left_of wire a b (x +ℤ offset i) (y +ℤ offset j) r s (bank_pins wire (x +ℤ offset i) (y +ℤ offset j) wire.width (offset i) (offset j) f.row_x (columns_x plan kit f) f.bank_width at.to (banks_left plan kit wire tracks f m i j lt) to.from s_of.row s_of.columns m.laid.sizes.width.from)
    | inr ge ↦ elim (cases_lt j i) [
      | inl lt ↦ right_of wire a b (x +ℤ offset i) (y +ℤ offset j) t p (bank_pins wire (y +ℤ offset j) (x +ℤ offset i) wire.width (offset j) (offset i) f.row_x (columns_x plan kit f) f.bank_width to.to (banks_left plan kit wire tracks f m j i lt) at.from s_of.row s_of.columns m.laid.sizes.width.from)
      | inr le ↦
          let e : offset j ≡ offset i = ap offset (omega (arith, ge, le)) in
          at_pins wire a b n k x y (offset i) p r (s ∙ ap (λ (z : ℤ). y +ℤ z) e) (t ∙ ap (λ (z : ℤ). (y +ℤ z) +ℤ wire.width) e) pins
    ]
  ]

  pub second_apart : (s u : Shape) (y : ℤ) → s.layer ≡ slice_index wire.metals 1 → u.layer ≡ slice_index wire.metals 1 → IsDrawnWire plan kit wire tracks f s → IsDrawnWire plan kit wire tracks f u → IsInRow s y → IsInRow u y → AreOneOrApart wire.space s.rect u.rect
  second_apart s u y on at is also r q = pairs (on_second plan kit wire tracks f m s on is) (on_second plan kit wire tracks f m u at also) where
    mains : second.IsMainBranch plan kit wire tracks f m s → second.IsMainBranch plan kit wire tracks f m u → AreOneOrApart wire.space s.rect u.rect
    mains a c =
        at_pins wire s.rect u.rect a.net c.net a.x c.x (pos 0) (a.drawn.left ∙ plain a.x) (a.drawn.right ∙ ap (λ (z : ℤ). z +ℤ wire.width) (plain a.x)) (c.drawn.left ∙ plain c.x) (c.drawn.right ∙ ap (λ (z : ℤ). z +ℤ wire.width) (plain c.x))
        (m.main.bottom a.net c.net a.x c.x a.pin c.pin)

    columns : second.IsColumnBranch plan kit wire tracks f m s → second.IsColumnBranch plan kit wire tracks f m u → AreOneOrApart wire.space s.rect u.rect
    columns a c =
        in_banks s.rect u.rect a.bank c.bank a.net c.net a.pin.0 c.pin.0 (a.drawn.left ∙ a.pin.2) (a.drawn.right ∙ ap (λ (z : ℤ). z +ℤ wire.width) a.pin.2) (c.drawn.left ∙ c.pin.2) (c.drawn.right ∙ ap (λ (z : ℤ). z +ℤ wire.width) c.pin.2)
        (subst (IsInColumns plan kit wire f a.bank) a.pin.2 a.at) (subst (IsInColumns plan kit wire f c.bank) c.pin.2 c.at) (m.column.bottom a.net c.net a.pin.0 c.pin.0 a.pin.1 c.pin.1)

    pairs : second.IsOnSecond plan kit wire tracks f m s → second.IsOnSecond plan kit wire tracks f m u → AreOneOrApart wire.space s.rect u.rect
    pairs (inl a) (inl c) = mains a c
    pairs (inl a) (inr (inl c)) = absurd (main_column s u y r q a c)
    pairs (inl a) (inr (inr c)) = absurd (no_trunk u y q c)
    pairs (inr (inl a)) (inl c) = absurd (main_column u s y q r c a)
    pairs (inr (inl a)) (inr (inl c)) = columns a c
    pairs (inr (inl a)) (inr (inr c)) = absurd (no_trunk u y q c)
    pairs (inr (inr a)) c = absurd (no_trunk s y r a)

  -- On the fourth metal

  -- a wire that ends at the write cells' or the columns' lower edge, between a bank's rows and its end
  pub record IsUnderRow (s : Shape) (y : ℤ) : Type 0 where
    pub ends : (s.rect.y2 ≡ f.write_y) ⊎ (s.rect.y2 ≡ f.column_y)
    pub low : s.rect.y1 ≤ℤ y
    pub high : y <ℤ s.rect.y2
    pub bank : ℕ
    pub from : bank_x f bank f.row_x ≤ℤ s.rect.x1
    pub to : s.rect.x2 ≤ℤ bank_x f bank f.bank_width

  -- which no rail is
  no_rail : (s : Shape) (y : ℤ) → IsUnderRow s y → (b : ℕ) (x : ℤ) → IsRailAt wire f b x → s.rect.x1 ≡ x → ⊥
  no_rail s y r b x rail e = elim (cases_lt r.bank b) [
    | inl lt ↦ before x s.rect.x1 s.rect.x2 (offset r.bank) (offset b) f.bank_width e rail.from s.rect.wide r.to (banks_left plan kit wire tracks f m r.bank b lt) m.laid.sizes.width.from m.laid.sizes.space.from
    | inr ge ↦ after x s.rect.x1 (offset r.bank) (offset b) f.row_x e rail.to r.from (up b r.bank ge) m.laid.sizes.width.from m.laid.sizes.space.from
  ] where
    before : (x x1 x2 q v bank : ℤ) → x1 ≡ x → (pitch wire +ℤ v) ≤ℤ x → x1 <ℤ x2 → x2 ≤ℤ (bank +ℤ q) → (q +ℤ bank) ≤ℤ v → pos 1 ≤ℤ wire.width → pos 1 ≤ℤ wire.space → ⊥
    before x x1 x2 q v bank e a c d g w k = omega (arith, ints, e, a, c, d, g, w, k)

    after : (x x1 q v row : ℤ) → x1 ≡ x → ((x +ℤ wire.width) +ℤ wire.space) ≤ℤ (row +ℤ v) → (row +ℤ q) ≤ℤ x1 → v ≤ℤ q → pos 1 ≤ℤ wire.width → pos 1 ≤ℤ wire.space → ⊥
    after x x1 q v row e a c d w k = omega (arith, ints, e, a, c, d, w, k)

    up : (b c : ℕ) → b ≤ c → offset b ≤ℤ offset c
    up b c le = elim (cases_lt b c) [
      | inl lt ↦ let g = banks_left plan kit wire tracks f m b c lt in let w = s_of.wide in omega (arith, ints, g, w)
      | inr ge ↦ let e : offset b ≡ offset c = ap offset (omega (arith, le, ge)) in omega (arith, ints, e)
    ]

  stem_column : (s u : Shape) (y : ℤ) → IsUnderRow s y → IsUnderRow u y → fourth.IsStem plan kit wire tracks f m s → fourth.IsColumnBranch plan kit wire tracks f m u → ⊥
  stem_column s u y r q a c =
      let h = r.high in
      let low = q.low in
      let cl = c.drawn.low in
      let above = c.above in
      let ah = a.drawn.high in
      let ls = l.sense in
      let lc = l.channel in
      let lm = l.column in
      let sp = m.laid.sizes.space.from in
      elim r.ends [
        | inl e ↦ omega (arith, ints, h, e, low, cl, above, ls, lc, sp)
        | inr e ↦ elim a.kind [
          | inl low_end ↦ omega (arith, ints, e, ah, low_end, lc, lm, sp)
          | inr rail ↦ no_rail s y r rail.0 a.x rail.1 a.drawn.left
        ]
      ]

  pub fourth_apart : (s u : Shape) (y : ℤ) → s.layer ≡ slice_index wire.metals 3 → u.layer ≡ slice_index wire.metals 3 → IsDrawnWire plan kit wire tracks f s → IsDrawnWire plan kit wire tracks f u → IsUnderRow s y → IsUnderRow u y → AreOneOrApart wire.space s.rect u.rect
  fourth_apart s u y on at is also r q = pairs (on_fourth plan kit wire tracks f m s on is) (on_fourth plan kit wire tracks f m u at also) where
    stems : fourth.IsStem plan kit wire tracks f m s → fourth.IsStem plan kit wire tracks f m u → AreOneOrApart wire.space s.rect u.rect
    stems a c =
        at_pins wire s.rect u.rect a.net c.net a.x c.x (pos 0) (a.drawn.left ∙ plain a.x) (a.drawn.right ∙ ap (λ (z : ℤ). z +ℤ wire.width) (plain a.x)) (c.drawn.left ∙ plain c.x) (c.drawn.right ∙ ap (λ (z : ℤ). z +ℤ wire.width) (plain c.x))
        (m.main.top a.net c.net a.x c.x a.pin c.pin)

    columns : fourth.IsColumnBranch plan kit wire tracks f m s → fourth.IsColumnBranch plan kit wire tracks f m u → AreOneOrApart wire.space s.rect u.rect
    columns a c =
        in_banks s.rect u.rect a.bank c.bank a.net c.net a.pin.0 c.pin.0 (a.drawn.left ∙ a.pin.2) (a.drawn.right ∙ ap (λ (z : ℤ). z +ℤ wire.width) a.pin.2) (c.drawn.left ∙ c.pin.2) (c.drawn.right ∙ ap (λ (z : ℤ). z +ℤ wire.width) c.pin.2)
        (subst (IsInColumns plan kit wire f a.bank) a.pin.2 a.at) (subst (IsInColumns plan kit wire f c.bank) c.pin.2 c.at) (m.column.top a.net c.net a.pin.0 c.pin.0 a.pin.1 c.pin.1)

    pairs : fourth.IsOnFourth plan kit wire tracks f m s → fourth.IsOnFourth plan kit wire tracks f m u → AreOneOrApart wire.space s.rect u.rect
    pairs (inl a) (inl c) = stems a c
    pairs (inl a) (inr c) = absurd (stem_column s u y r q a c)
    pairs (inr a) (inl c) = absurd (stem_column u s y q r c a)
    pairs (inr a) (inr c) = columns a c
