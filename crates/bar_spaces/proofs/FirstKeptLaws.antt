-- The space rule of the first metal is kept where the small memories keep it.
use Rattle.std.proofs.Common.{◌≡◌, ◌⊎◌, inl, inr, ◌∙◌, ℕ, ◌<◌, ℤ, pos, ◌+ℤ◌, ◌*ℤ◌, ◌≤ℤ◌, ◌<ℤ◌, List, sym, ap, subst, arith}
use Rattle.std.specs.Prelude.{Contains, slice_index}
use Rattle.std.proofs.lemmas.Bool.{cases_lt}
use Rattle.std.proofs.lemmas.Int.{ints}
use Rattle.or_geom.specs.declared.shape.Shape.{Shape}
use Rattle.or_geom.proofs.PlaceLaws.{same_rect}
use Rattle.tech_rules.specs.declared.tech.Rule.{Rule}
use Rattle.tech_rules.specs.declared.tech.Rule.TheVariants.{Space}
use Rattle.tech_rules.specs.declared.tech.Wire.{Wire}
use Rattle.wire_drawing.specs.Drawing.{pitch}
use Rattle.tile_checker.specs.Breaks.{BreaksSpace}
use Rattle.cell_hierarchy.specs.FlatSet.{IsFlatShape}
use Rattle.sram_netlist.specs.Organization.{Organization, power_of_two, banks_of}
use Rattle.sram_netlist.specs.BitCells.{Alike}
use Rattle.macro_layout.specs.LayoutKit.{LayoutKit}
use Rattle.macro_layout.specs.Places.{Floorplan, columns_x}
use Rattle.macro_layout.specs.Floorplan.{Tracks}
use Rattle.macro_layout.specs.Wires.{columns_end}
use Rattle.local_report.specs.Local.{KeepsRule}
use Rattle.local_report.proofs.CleanLaws.{space_back, joined_itself}
use Rattle.good_places.specs.Beside.{HaveOneLeftPart}
use Rattle.good_places.specs.Leaves.{ReachesNeighboursOnly}
use Rattle.leaf_shapes.specs.Outline.{IsWireLayer}
use Rattle.good_places.specs.Windows.{IsWindowOf, IsWrittenPlan}
use Rattle.good_places.proofs.NumberLaws.{banks_before}
use Rattle.good_wires.specs.Spaced.{AreSpaced}
use Rattle.good_wires.specs.Drawn.{IsDrawnMemory, IsDrawnWire}
use Rattle.good_wires.specs.Kept.{HasDrawnShapes, IsCleanDrawing}
use Rattle.good_wires.proofs.LevelLaws.{Sides, sides}
use Rattle.good_wires.proofs.SpacedLaws.{spaced_not_near}
use Rattle.bar_spaces.specs.Kept.{FirstSpaceIsKept}
use Rattle.supply_bars.specs.Heights.{Height, part_of, low, bar_begin, HasBar, HasJoiner, IsAtHeight, IsBarAlong, IsJoinerAlong, IsFlatWire, height_y}
use Rattle.supply_bars.proofs.HeightLaws.{on_metal, a_bar, a_joiner}
use Rattle.supply_bars.proofs.PartLaws.{rise_of, tall_of, same_bars, in_part, parts, bar_wide, joiner_begins, one_joiner}
use Rattle.bar_spaces.proofs.OverLaws.{stacked_kept}
use Rattle.bar_spaces.proofs.LeafSpaceLaws.{leaf_seen}
use Rattle.bar_spaces.proofs.TwoBarLaws.{bars_stacked, bars_fill}
use Rattle.bar_spaces.proofs.ZoneAtLaws.{window, window_is, one_left, columns_some, window_columns}
use Rattle.bar_spaces.proofs.JoinerLaws.{columns_wide, joiner_below, joiner_above, joiner_stacked}

-- Bars and joiners of different parts, and joiners of different banks
module _ (plan : Organization) (kit : LayoutKit) (wire : Wire) (tracks : Tracks) (f : Floorplan) (m : IsDrawnMemory plan kit wire tracks f) where
  s_of : Sides plan kit wire f
  s_of = sides plan kit wire tracks f m.laid.sizes m.stands

  pub part_or_apart : (h k : Height) (a b : Shape) → HasBar plan.groups h ⊎ HasJoiner h → HasBar plan.groups k ⊎ HasJoiner k → IsAtHeight plan kit wire f h a → IsAtHeight plan kit wire f k b → (part_of h ≡ part_of k) ⊎ AreSpaced wire.space a.rect b.rect
  part_or_apart h k a b has_h has_k at_a at_b = elim (parts plan kit wire tracks f m (part_of h) (part_of k)) [
    | inl same ↦ inl same
    | inr apart ↦ elim apart [
      | inl below ↦ inr (inr (inr (inr (inl (go a.rect.y2 b.rect.y1 (low f (part_of h)) (low f (part_of k)) (rise_of plan kit wire h) (rise_of plan kit wire k) (tall_of plan kit (part_of h)) at_a.high at_b.low (in_part plan kit wire tracks f m h has_h).to (in_part plan kit wire tracks f m k has_k).from below)))))
      | inr above ↦ inr (inr (inr (inr (inr (go b.rect.y2 a.rect.y1 (low f (part_of k)) (low f (part_of h)) (rise_of plan kit wire k) (rise_of plan kit wire h) (tall_of plan kit (part_of k)) at_b.high at_a.low (in_part plan kit wire tracks f m k has_k).to (in_part plan kit wire tracks f m h has_h).from above)))))
    ]
  ] where
    go : (y2 z1 p q r s t : ℤ) → y2 ≡ (p +ℤ r) +ℤ wire.width → z1 ≡ q +ℤ s → (r +ℤ wire.width) ≤ℤ t → pos 0 ≤ℤ s → ((p +ℤ t) +ℤ wire.space) ≤ℤ q → (y2 +ℤ wire.space) ≤ℤ z1
    go y2 z1 p q r s t a c d e i = omega (arith, ints, a, c, d, e, i)

  bank_before : (i j : ℕ) (h k : Height) (a b : Shape) → IsJoinerAlong plan kit wire f i h a → IsJoinerAlong plan kit wire f j k b → i < j → (a.rect.x2 +ℤ wire.space) ≤ℤ b.rect.x1
  bank_before i j h k a b p q lt =
      let next = banks_before i j f.bank_width lt s_of.wide in
      let begun = (joiner_begins plan kit wire tracks f m k q.has).0 in
      go a.rect.x2 b.rect.x1 (columns_end plan kit f) f.bank_width (pos i *ℤ f.bank_width) (pos j *ℤ f.bank_width) (bar_begin plan kit f k) p.right q.left m.stands.bank_width next begun s_of.row m.laid.sizes.width.from
    where
      go : (x2 u1 e w p q s : ℤ) → x2 ≡ e +ℤ p → u1 ≡ s +ℤ q → w ≡ e → (p +ℤ w) ≤ℤ q → f.row_x ≤ℤ s → pitch wire ≤ℤ f.row_x → pos 1 ≤ℤ wire.width → (x2 +ℤ wire.space) ≤ℤ u1
      go x2 u1 e w p q s a c d g b r o = omega (arith, ints, a, c, d, g, b, r, o)

  pub joiners_spaced : (i j : ℕ) (h k : Height) (a b : Shape) → IsJoinerAlong plan kit wire f i h a → IsJoinerAlong plan kit wire f j k b → part_of h ≡ part_of k → AreSpaced wire.space a.rect b.rect
  joiners_spaced i j h k a b p q part = elim (cases_lt i j) [
    | inl lt ↦ inr (inl (bank_before i j h k a b p q lt))
    | inr ge ↦ elim (cases_lt j i) [
      | inl lt ↦ inr (inr (inl (bank_before j i k h b a q p lt)))
      | inr le ↦ inl (joined_itself a.rect b.rect (one (omega (arith, ge, le)) (one_joiner h k p.has q.has part)))
    ]
  ] where
    one : i ≡ j → h ≡ k → a.rect ≡ b.rect
    one e s = same_rect a.rect b.rect
        (p.left ∙ ap (λ (n : ℕ). bar_begin plan kit f h +ℤ (pos n *ℤ f.bank_width)) e ∙ ap (λ (t : Height). bar_begin plan kit f t +ℤ (pos j *ℤ f.bank_width)) s ∙ sym q.left)
        (p.at.low ∙ ap (height_y plan kit wire f) s ∙ sym q.at.low)
        (p.right ∙ ap (λ (n : ℕ). columns_end plan kit f +ℤ (pos n *ℤ f.bank_width)) e ∙ sym q.right)
        (p.at.high ∙ ap (λ (t : Height). height_y plan kit wire f t +ℤ wire.width) s ∙ sym q.at.high)

module _ (Flat : List ℕ → Shape → Type 0) (rules : List Rule) (plan : Organization) (kit : LayoutKit) (bit : List ℕ) (wire : Wire) (tracks : Tracks) (f : Floorplan) (by reach : ℤ) (to : List Shape) (p : IsWrittenPlan plan) (short : ReachesNeighboursOnly kit wire reach) (over : pos 0 ≤ℤ by)
    (flat : HasDrawnShapes Flat plan kit (Alike bit) wire tracks f by to) (listed : Contains wire.metals (slice_index wire.metals 0)) (windows : (other : Organization) → IsWindowOf plan other → IsCleanDrawing Flat rules other kit (Alike bit) wire by)
    (min : ℤ) (some : pos 1 ≤ℤ min) (small : min ≤ℤ wire.space) (near : (min +ℤ (by +ℤ by)) ≤ℤ reach) (rule : Contains rules (Space (slice_index wire.metals 0) (slice_index wire.metals 0) min)) where
  abbrev metal : ℕ
  metal = slice_index wire.metals 0

  of_wires : IsWireLayer wire metal
  of_wires = inl listed

  abbrev other : Organization
  other = window plan kit bit wire f reach p flat.drawn.laid short

  same : HaveOneLeftPart plan other
  same = one_left plan kit bit wire f reach p flat.drawn.laid short

  c : IsCleanDrawing Flat rules other kit (Alike bit) wire by
  c = windows other (window_is plan kit bit wire f reach p flat.drawn.laid short)

  abbrev m : IsDrawnMemory plan kit wire tracks f
  m = flat.drawn

  n : IsDrawnMemory other kit wire c.tracks c.floorplan
  n = c.flat.drawn

  bars_kept : (a b : Shape) → a.layer ≡ metal → b.layer ≡ metal → (h k : Height) → IsBarAlong plan kit wire f h a → IsBarAlong plan kit wire f k b → part_of h ≡ part_of k → BreaksSpace metal metal min to a b → ⊥
  bars_kept a b on_a on_b h k bar_a bar_b part broken =
      let e = a_bar other kit wire c.tracks c.floorplan n h (same_bars plan other h same bar_a.has) (bar_wide other kit wire c.tracks c.floorplan n h) in
      let d = a_bar other kit wire c.tracks c.floorplan n k (same_bars plan other k same bar_b.has) (bar_wide other kit wire c.tracks c.floorplan n k) in
      stacked_kept rules metal min c.shapes to c.clean rule a b e.0 d.0 ((c.flat.has metal of_wires e.0 e.2).1 (inl e.1)) ((c.flat.has metal of_wires d.0 d.2).1 (inl d.1)) on_a on_b e.2 d.2
      (bars_stacked Flat plan other kit (Alike bit) wire tracks c.tracks f c.floorplan m n same c.flat.inside listed c.shapes to (c.flat.has metal of_wires) (flat.has metal of_wires) h k a b e.0 d.0 bar_a bar_b e.3 d.3 part)
      (bars_fill Flat plan other kit (Alike bit) wire tracks c.tracks f c.floorplan m n same c.flat.inside listed c.shapes to (c.flat.has metal of_wires) (flat.has metal of_wires) h k a b e.0 d.0 bar_a bar_b e.3 d.3 part)
      (bars_fill Flat plan other kit (Alike bit) wire tracks c.tracks f c.floorplan m n same c.flat.inside listed c.shapes to (c.flat.has metal of_wires) (flat.has metal of_wires) k h b a d.0 e.0 bar_b bar_a d.3 e.3 (sym part)) broken

  -- a joiner of the window
  joiner_there : (b : ℕ) (h : Height) → b < banks_of plan → HasJoiner h → (s : Shape) × IsDrawnWire other kit wire c.tracks c.floorplan s × (s.layer ≡ metal) × IsJoinerAlong other kit wire c.floorplan b h s
  joiner_there b h below has =
      a_joiner other kit wire c.tracks c.floorplan n b h (subst (λ (k : ℕ). b < power_of_two k) (sym same.bank_bits) below) has
      (before (bar_begin other kit c.floorplan h) (columns_x other kit c.floorplan) (columns_end other kit c.floorplan) (joiner_begins other kit wire c.tracks c.floorplan n h has).1 (columns_wide other kit wire c.tracks c.floorplan n (window_columns plan kit bit wire f reach p flat.drawn.laid short)))
    where
      before : (b c e : ℤ) → b ≤ℤ c → c <ℤ e → b <ℤ e
      before b c e p q = omega (arith, ints, p, q)

  joiner_kept : (a b : Shape) → a.layer ≡ metal → b.layer ≡ metal → (j : ℕ) (h k : Height) → IsJoinerAlong plan kit wire f j h a → IsBarAlong plan kit wire f k b → part_of h ≡ part_of k → BreaksSpace metal metal min to a b → ⊥
  joiner_kept a b on_a on_b j h k joiner bar part broken =
      let e = joiner_there j h joiner.below joiner.has in
      let d = a_bar other kit wire c.tracks c.floorplan n k (same_bars plan other k same bar.has) (bar_wide other kit wire c.tracks c.floorplan n k) in
      stacked_kept rules metal min c.shapes to c.clean rule a b e.0 d.0 ((c.flat.has metal of_wires e.0 e.2).1 (inl e.1)) ((c.flat.has metal of_wires d.0 d.2).1 (inl d.1)) on_a on_b e.2 d.2
      (joiner_stacked Flat plan kit bit wire tracks c.tracks f c.floorplan reach p short m n c.flat.inside listed c.shapes to (c.flat.has metal of_wires) (flat.has metal of_wires) j h k part a b e.0 d.0 joiner bar e.3 d.3 (columns_some plan kit bit wire f reach p flat.drawn.laid short) (window_columns plan kit bit wire f reach p flat.drawn.laid short))
      (joiner_below Flat plan kit bit wire tracks c.tracks f c.floorplan reach p short m n c.flat.inside listed c.shapes to (c.flat.has metal of_wires) (flat.has metal of_wires) j h k part a b e.0 d.0 joiner bar e.3 d.3)
      (joiner_above Flat plan kit bit wire tracks c.tracks f c.floorplan reach p short m n c.flat.inside listed c.shapes to (c.flat.has metal of_wires) (flat.has metal of_wires) j h k part a b e.0 d.0 joiner bar e.3 d.3) broken

  apart_kept : (a b : Shape) → AreSpaced wire.space a.rect b.rect → BreaksSpace metal metal min to a b → ⊥
  apart_kept a b spaced broken = spaced_not_near min wire.space a.rect b.rect some small spaced broken.near

  -- two wires keep the rule
  wires_kept : (a b : Shape) → a.layer ≡ metal → b.layer ≡ metal → IsFlatWire plan kit wire f a → IsFlatWire plan kit wire f b → BreaksSpace metal metal min to a b → ⊥
  wires_kept a b on_a on_b (inl (h, bar_a)) (inl (k, bar_b)) broken = elim (part_or_apart plan kit wire tracks f m h k a b (inl bar_a.has) (inl bar_b.has) bar_a.at bar_b.at) [
    | inl part ↦ bars_kept a b on_a on_b h k bar_a bar_b part broken
    | inr spaced ↦ apart_kept a b spaced broken
  ]
  wires_kept a b on_a on_b (inl (h, bar)) (inr (j, k, joiner)) broken = elim (part_or_apart plan kit wire tracks f m h k a b (inl bar.has) (inr joiner.has) bar.at joiner.at) [
    | inl part ↦ joiner_kept b a on_b on_a j k h joiner bar (sym part) (space_back metal metal min to a b broken)
    | inr spaced ↦ apart_kept a b spaced broken
  ]
  wires_kept a b on_a on_b (inr (j, h, joiner)) (inl (k, bar)) broken = elim (part_or_apart plan kit wire tracks f m h k a b (inr joiner.has) (inl bar.has) joiner.at bar.at) [
    | inl part ↦ joiner_kept a b on_a on_b j h k joiner bar part broken
    | inr spaced ↦ apart_kept a b spaced broken
  ]
  wires_kept a b on_a on_b (inr (i, h, p)) (inr (j, k, q)) broken = elim (part_or_apart plan kit wire tracks f m h k a b (inr p.has) (inr q.has) p.at q.at) [
    | inl part ↦ apart_kept a b (joiners_spaced plan kit wire tracks f m i j h k a b p q part) broken
    | inr spaced ↦ apart_kept a b spaced broken
  ]

  both_on : (m n : ℕ) → ((m ≡ metal) × (n ≡ metal)) ⊎ ((m ≡ metal) × (n ≡ metal)) → (m ≡ metal) × (n ≡ metal)
  both_on m n (inl e) = e
  both_on m n (inr e) = e

  pub kept : KeepsRule rules to (Space metal metal min)
  kept a b here there broken =
      let on = both_on a.layer b.layer broken.on in
      elim ((flat.has metal of_wires a on.0).0 here) [
        | inr leaf ↦ inl (leaf_seen Flat rules plan kit bit wire tracks f by reach to p short over flat listed windows min some small near a b on.0 on.1 leaf there broken.near)
        | inl wired ↦ elim ((flat.has metal of_wires b on.1).0 there) [
          | inr leaf ↦ inr (leaf_seen Flat rules plan kit bit wire tracks f by reach to p short over flat listed windows min some small near b a on.1 on.0 leaf here (space_back metal metal min to a b broken).near)
          | inl other_wired ↦ absurd (wires_kept a b on.0 on.1 (on_metal plan kit wire tracks f m a on.0 wired) (on_metal plan kit wire tracks f m b on.1 other_wired) broken)
        ]
      ]

pub first_space_is_kept : FirstSpaceIsKept
first_space_is_kept layers structs rules plan kit bit wire tracks f by reach to p short over flat listed windows min some small near rule = kept (IsFlatShape layers structs) rules plan kit bit wire tracks f by reach to p short over flat listed windows min some small near rule
