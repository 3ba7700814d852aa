-- A bar or a joiner that reaches near a zone has its like near the zone's pair.
use Rattle.std.proofs.Common.{◌≡◌, ◌⊎◌, inl, inr, ◌∙◌, ℕ, ◌<◌, ℤ, pos, ◌+ℤ◌, ◌-ℤ◌, ◌*ℤ◌, ◌≤ℤ◌, ◌<ℤ◌, sym, ap, subst, arith}
use Rattle.std.specs.Prelude.{slice_index}
use Rattle.std.specs.Int.{int_max, int_min}
use Rattle.std.proofs.lemmas.Bool.{cases_lt}
use Rattle.std.proofs.lemmas.Int.{ints, clamps}
use Rattle.or_geom.specs.declared.shape.Rect.{Rect}
use Rattle.or_geom.specs.declared.shape.Shape.{Shape}
use Rattle.shape_bins.specs.Meets.{Overlap}
use Rattle.tech_rules.specs.declared.tech.Wire.{Wire}
use Rattle.wire_drawing.specs.Drawing.{pitch}
use Rattle.sram_netlist.specs.Organization.{Organization}
use Rattle.macro_layout.specs.LayoutKit.{LayoutKit}
use Rattle.macro_layout.specs.Places.{Floorplan, bank_x}
use Rattle.macro_layout.specs.Floorplan.{Tracks}
use Rattle.macro_layout.specs.Wires.{trunk_x, columns_end}
use Rattle.good_places.specs.Beside.{HaveOneLeftPart}
use Rattle.good_places.specs.Leaves.{Zone, LiesNear}
use Rattle.good_places.proofs.NumberLaws.{banks_before}
use Rattle.good_wires.specs.Drawn.{IsDrawnMemory, IsDrawnWire}
use Rattle.good_wires.proofs.LevelLaws.{Sides, sides}
use Rattle.supply_bars.specs.Heights.{Storey, Height, part_of, low, bar_begin, HasBar, HasJoiner, trunk_by, is_power, IsAtHeight, IsBarAlong, IsJoinerAlong}
use Rattle.supply_bars.proofs.HeightLaws.{on_metal, a_bar, a_joiner}
use Rattle.supply_bars.proofs.PartLaws.{rise_of, tall_of, same_rise, same_bars, LiesInPart, in_part, parts, trunks, bar_wide, joiner_begins}
use Rattle.supply_bars.proofs.SideLaws.{IsAlikeLeft, IsAlikeRight}
use Rattle.supply_bars.proofs.PairedLaws.{ArePaired}

-- what stands in the other memory for a wire: as far as the frame goes the same, moved
pub record HasClipped (dx dy : ℤ) (frame : Rect) (IsWire : Shape → Type 0) (b : Shape) : Type 0 where
  pub image : Shape
  pub drawn : IsWire image
  pub layer : image.layer ≡ b.layer
  pub left : int_max (b.rect.x1 +ℤ dx) (frame.x1 +ℤ dx) ≡ int_max image.rect.x1 (frame.x1 +ℤ dx)
  pub low : image.rect.y1 ≡ b.rect.y1 +ℤ dy
  pub right : int_min (b.rect.x2 +ℤ dx) (frame.x2 +ℤ dx) ≡ int_min image.rect.x2 (frame.x2 +ℤ dx)
  pub high : image.rect.y2 ≡ b.rect.y2 +ℤ dy

clipped_left : (reach min ex here there x y frame b image : ℤ) → IsAlikeLeft reach ex here there x y → there ≡ here +ℤ ex → here ≤ℤ (frame +ℤ min) → min ≤ℤ reach → b ≡ x → image ≡ y → int_max (b +ℤ ex) (frame +ℤ ex) ≡ int_max image (frame +ℤ ex)
clipped_left reach min ex here there x y frame b image (inl e) moved near short p q = omega (arith, ints, clamps, e, p, q)
clipped_left reach min ex here there x y frame b image (inr (s, t)) moved near short p q = omega (arith, ints, clamps, s, t, moved, near, short, p, q)

clipped_right : (reach min ex here there x y frame b image : ℤ) → IsAlikeRight reach ex here there x y → there ≡ here +ℤ ex → frame ≤ℤ (here +ℤ min) → min ≤ℤ reach → b ≡ x → image ≡ y → int_min (b +ℤ ex) (frame +ℤ ex) ≡ int_min image (frame +ℤ ex)
clipped_right reach min ex here there x y frame b image (inl e) moved near short p q = omega (arith, ints, clamps, e, p, q)
clipped_right reach min ex here there x y frame b image (inr (s, t)) moved near short p q = omega (arith, ints, clamps, s, t, moved, near, short, p, q)

-- both end behind the frame
clipped_end : (min s ex here there t u frame b image w v1 v2 : ℤ) → (here +ℤ s) ≤ℤ t → (there +ℤ s) ≤ℤ u → t ≤ℤ v1 → u ≤ℤ v2 → there ≡ here +ℤ ex → frame ≤ℤ (here +ℤ min) → min ≤ℤ s → pos 1 ≤ℤ w → b ≡ v1 +ℤ w → image ≡ v2 +ℤ w → int_min (b +ℤ ex) (frame +ℤ ex) ≡ int_min image (frame +ℤ ex)
clipped_end min s ex here there t u frame b image w v1 v2 p q p1 q1 moved near small one a c = omega (arith, ints, clamps, p, q, p1, q1, moved, near, small, one, a, c)

moved_height : (image b ra rb la lb ey : ℤ) → image ≡ lb +ℤ rb → b ≡ la +ℤ ra → rb ≡ ra → lb ≡ la +ℤ ey → image ≡ b +ℤ ey
moved_height image b ra rb la lb ey p q r s = omega (arith, ints, p, q, r, s)

moved_top : (image b ra rb la lb ey w : ℤ) → image ≡ (lb +ℤ rb) +ℤ w → b ≡ (la +ℤ ra) +ℤ w → rb ≡ ra → lb ≡ la +ℤ ey → image ≡ b +ℤ ey
moved_top image b ra rb la lb ey w p q r s = omega (arith, ints, p, q, r, s)

-- the second stands so much further up than the first
pub record IsUp (d : ℤ) (from to : Rect) : Type 0 where
  pub low : to.y1 ≡ from.y1 +ℤ d
  pub high : to.y2 ≡ from.y2 +ℤ d

-- what stands at a height of either memory stands so much further up as its part does
pub up_height : (plan other : Organization) (kit : LayoutKit) (wire : Wire) (f g : Floorplan) (same : HaveOneLeftPart plan other) (h : Height) (s t : Shape) → IsAtHeight plan kit wire f h s → IsAtHeight other kit wire g h t → IsUp (low f (part_of h) -ℤ low g (part_of h)) t.rect s.rect
up_height plan other kit wire f g same h s t p r = record {
  low = moved_height s.rect.y1 t.rect.y1 (rise_of other kit wire h) (rise_of plan kit wire h) (low g (part_of h)) (low f (part_of h)) (low f (part_of h) -ℤ low g (part_of h)) p.low r.low (sym (same_rise plan other kit wire h same)) (apart (low f (part_of h)) (low g (part_of h)));
  high = moved_top s.rect.y2 t.rect.y2 (rise_of other kit wire h) (rise_of plan kit wire h) (low g (part_of h)) (low f (part_of h)) (low f (part_of h) -ℤ low g (part_of h)) wire.width p.high r.high (sym (same_rise plan other kit wire h same)) (apart (low f (part_of h)) (low g (part_of h)));
} where
  apart : (x y : ℤ) → x ≡ y +ℤ (x -ℤ y)
  apart x y = omega (arith, ints)

module _ (plan other : Organization) (kit : LayoutKit) (wire : Wire) (tracks many : Tracks) (f g : Floorplan) (m : IsDrawnMemory plan kit wire tracks f) (n : IsDrawnMemory other kit wire many g) (reach ex ey : ℤ) (here there : Zone) (pair : ArePaired plan other kit wire f g reach ex ey here there)
    (min : ℤ) (frame : Rect) (small : min ≤ℤ wire.space) (short : min ≤ℤ reach) (lies : LiesNear min here frame) where
  abbrev Clipped : Shape → Type 0
  Clipped b = HasClipped ex ey frame (IsDrawnWire other kit wire many g) b

  s_of : Sides plan kit wire f
  s_of = sides plan kit wire tracks f m.laid.sizes m.stands

  -- the part's lower edge, moved
  low_moves : (h : Height) → pair.part ≡ part_of h → low g (part_of h) ≡ low f (part_of h) +ℤ ey
  low_moves h at = subst (λ (p : Storey). low g p ≡ low f p +ℤ ey) at (sym pair.low_there ∙ pair.moved.low ∙ ap (λ (z : ℤ). z +ℤ ey) pair.low_here)

  image_low : (h : Height) → pair.part ≡ part_of h → (b image : Shape) → IsAtHeight plan kit wire f h b → IsAtHeight other kit wire g h image → image.rect.y1 ≡ b.rect.y1 +ℤ ey
  image_low h at b image p q = moved_height image.rect.y1 b.rect.y1 (rise_of plan kit wire h) (rise_of other kit wire h) (low f (part_of h)) (low g (part_of h)) ey q.low p.low (same_rise plan other kit wire h pair.same) (low_moves h at)

  image_high : (h : Height) → pair.part ≡ part_of h → (b image : Shape) → IsAtHeight plan kit wire f h b → IsAtHeight other kit wire g h image → image.rect.y2 ≡ b.rect.y2 +ℤ ey
  image_high h at b image p q = moved_top image.rect.y2 b.rect.y2 (rise_of plan kit wire h) (rise_of other kit wire h) (low f (part_of h)) (low g (part_of h)) ey wire.width q.high p.high (same_rise plan other kit wire h pair.same) (low_moves h at)

  -- what stands in another part is further away
  elsewhere : (h : Height) → HasBar plan.groups h ⊎ HasJoiner h → (b : Shape) → IsAtHeight plan kit wire f h b → Overlap b.rect frame → pair.part ≡ part_of h
  elsewhere h has b at over = elim (parts plan kit wire tracks f m pair.part (part_of h)) [
    | inl same ↦ same
    | inr apart ↦ elim apart [
      | inl below ↦ absurd (let a = over.low in let c = at.low in let d = lies.high in let e = pair.high_here in let i = inside.from in
          go_up b.rect.y1 frame.y2 here.high (low f pair.part) (tall_of plan kit pair.part) (low f (part_of h)) (rise_of plan kit wire h) a c d e i below)
      | inr above ↦ absurd (let a = over.high in let c = at.high in let d = lies.low in let e = pair.low_here in let i = inside.to in
          go_down b.rect.y2 frame.y1 here.low (low f pair.part) (low f (part_of h)) (tall_of plan kit (part_of h)) (rise_of plan kit wire h) a c d e i above)
    ]
  ] where
    inside : LiesInPart plan kit wire tracks f m h
    inside = in_part plan kit wire tracks f m h has

    go_up : (y1 t hi p tl q r : ℤ) → y1 <ℤ t → y1 ≡ q +ℤ r → t ≤ℤ (hi +ℤ min) → hi ≡ p +ℤ tl → pos 0 ≤ℤ r → ((p +ℤ tl) +ℤ wire.space) ≤ℤ q → ⊥
    go_up y1 t hi p tl q r a c d e i below = omega (arith, ints, a, c, d, e, i, below, small)

    go_down : (y2 t lo p q tl r : ℤ) → t <ℤ y2 → y2 ≡ (q +ℤ r) +ℤ wire.width → lo ≤ℤ (t +ℤ min) → lo ≡ p → (r +ℤ wire.width) ≤ℤ tl → ((q +ℤ tl) +ℤ wire.space) ≤ℤ p → ⊥
    go_down y2 t lo p q tl r a c d e i above = omega (arith, ints, a, c, d, e, i, above, small)

  bar_clipped : (b : Shape) → b.layer ≡ slice_index wire.metals 0 → (h : Height) → IsBarAlong plan kit wire f h b → Overlap b.rect frame → Clipped b
  bar_clipped b on h bar over =
      let at = elsewhere h (inl bar.has) b bar.at over in
      let i = a_bar other kit wire many g n h (same_bars plan other h pair.same bar.has) (bar_wide other kit wire many g n h) in
      record {
        image = i.0;
        drawn = i.1;
        layer = i.2 ∙ sym on;
        left = clipped_left reach min ex here.left there.left (bar_begin plan kit f h) (bar_begin other kit g h) frame.x1 b.rect.x1 i.0.rect.x1 (pair.bars h at) pair.moved.left lies.left short bar.left i.3.left;
        low = image_low h at b i.0 bar.at i.3.at;
        right = clipped_end min wire.space ex here.right there.right (trunk_x plan kit wire f) (trunk_x other kit wire g) frame.x2 b.rect.x2 i.0.rect.x2 wire.width (trunk_by plan kit wire f (is_power h)) (trunk_by other kit wire g (is_power h)) pair.end_here pair.end_there
            (trunks plan kit wire tracks f m (is_power h)) (trunks other kit wire many g n (is_power h)) pair.moved.right lies.right small m.laid.sizes.width.from bar.right i.3.right;
        high = image_high h at b i.0 bar.at i.3.at;
      }

  -- a joiner of another bank is further away
  pub same_bank : (b : Shape) (k : ℕ) (h : Height) → IsJoinerAlong plan kit wire f k h b → Overlap b.rect frame → (j : ℕ) → bank_x f j f.row_x ≤ℤ here.left → here.right ≤ℤ bank_x f j (columns_end plan kit f) → k ≡ j
  same_bank b k h joiner over j from to = elim (cases_lt k j) [
    | inl lt ↦ absurd (before lt)
    | inr ge ↦ elim (cases_lt j k) [
      | inl lt ↦ absurd (behind lt)
      | inr le ↦ omega (arith, ge, le)
    ]
  ] where
    row : pitch wire ≤ℤ f.row_x
    row = s_of.row

    one : pos 1 ≤ℤ wire.width
    one = m.laid.sizes.width.from

    before : k < j → ⊥
    before lt =
        let next = banks_before k j f.bank_width lt s_of.wide in
        go b.rect.x2 frame.x1 here.left (columns_end plan kit f) f.bank_width (pos k *ℤ f.bank_width) (pos j *ℤ f.bank_width) joiner.right over.right lies.left from m.stands.bank_width next
      where
        go : (x2 t left e w q p : ℤ) → x2 ≡ e +ℤ q → t <ℤ x2 → left ≤ℤ (t +ℤ min) → (f.row_x +ℤ p) ≤ℤ left → w ≡ e → (q +ℤ w) ≤ℤ p → ⊥
        go x2 t left e w q p a c d i u v = omega (arith, ints, a, c, d, i, u, v, small, row, one)

    behind : j < k → ⊥
    behind lt =
        let next = banks_before j k f.bank_width lt s_of.wide in
        let begun = (joiner_begins plan kit wire tracks f m h joiner.has).0 in
        go b.rect.x1 frame.x2 here.right (bar_begin plan kit f h) (columns_end plan kit f) f.bank_width (pos k *ℤ f.bank_width) (pos j *ℤ f.bank_width) joiner.left over.left lies.right to m.stands.bank_width next begun
      where
        go : (x1 t right s e w q p : ℤ) → x1 ≡ s +ℤ q → x1 <ℤ t → t ≤ℤ (right +ℤ min) → right ≤ℤ (e +ℤ p) → w ≡ e → (p +ℤ w) ≤ℤ q → f.row_x ≤ℤ s → ⊥
        go x1 t right s e w q p a c d i u v b = omega (arith, ints, a, c, d, i, u, v, b, small, row, one)

  joiner_clipped : (b : Shape) → b.layer ≡ slice_index wire.metals 0 → (k : ℕ) (h : Height) → IsJoinerAlong plan kit wire f k h b → Overlap b.rect frame → Clipped b
  joiner_clipped b on k h joiner over =
      let at = elsewhere h (inr joiner.has) b joiner.at over in
      let j = pair.joiners h joiner.has at in
      let same = same_bank b k h joiner over j.bank j.from_here j.to_here in
      let i = a_joiner other kit wire many g n j.bank h j.below_there joiner.has j.wide_there in
      record {
        image = i.0;
        drawn = i.1;
        layer = i.2 ∙ sym on;
        left = clipped_left reach min ex here.left there.left (bank_x f j.bank (bar_begin plan kit f h)) (bank_x g j.bank (bar_begin other kit g h)) frame.x1 b.rect.x1 i.0.rect.x1 j.left pair.moved.left lies.left short (joiner.left ∙ ap (λ (q : ℕ). bank_x f q (bar_begin plan kit f h)) same) i.3.left;
        low = image_low h at b i.0 joiner.at i.3.at;
        right = clipped_right reach min ex here.right there.right (bank_x f j.bank (columns_end plan kit f)) (bank_x g j.bank (columns_end other kit g)) frame.x2 b.rect.x2 i.0.rect.x2 j.right pair.moved.right lies.right short (joiner.right ∙ ap (λ (q : ℕ). bank_x f q (columns_end plan kit f)) same) i.3.right;
        high = image_high h at b i.0 joiner.at i.3.at;
      }

  -- each wire on the first metal that reaches into the frame has its like
  pub wire_clipped : (b : Shape) → IsDrawnWire plan kit wire tracks f b → b.layer ≡ slice_index wire.metals 0 → Overlap b.rect frame → Clipped b
  wire_clipped b is on over = elim (on_metal plan kit wire tracks f m b on is) [
    | inl bar ↦ bar_clipped b on bar.0 bar.1 over
    | inr joiner ↦ joiner_clipped b on joiner.0 joiner.1 joiner.2 over
  ]
