-- Each shape of a layout on a metal is covered by the view's boxes.
use Rattle.std.proofs.Common.{◌≡◌, ◌≢◌, ◌⊎◌, inl, inr, ℕ, ◌<◌, ◌≤◌, ℤ, pos, ◌+ℤ◌, ◌*ℤ◌, ◌≤ℤ◌, List, sym, ap, subst, ◌∙◌, arith}
use Rattle.std.specs.Prelude.{slice_get, slice_index, Some}
use Rattle.std.proofs.lemmas.Bool.{cases_lt}
use Rattle.std.proofs.lemmas.Int.{ints}
use Rattle.or_geom.specs.declared.shape.Rect.{Rect}
use Rattle.or_geom.specs.declared.shape.Shape.{Shape}
use Rattle.tech_rules.specs.declared.tech.Layer.{Layer}
use Rattle.tech_rules.specs.declared.tech.Wire.{Wire}
use Rattle.wire_drawing.specs.Drawing.{pitch}
use Rattle.cell_builder.specs.Flat.{IsShapeTaken}
use Rattle.channel_router.specs.Apart.{AreSevenLayers}
use Rattle.sram_netlist.specs.Organization.{Organization}
use Rattle.sram_netlist.specs.Instances.{LeafInstance}
use Rattle.sram_netlist.specs.Netlist.{role}
use Rattle.sram_netlist.specs.Membership.{HasLeafInstance}
use Rattle.sram_netlist.specs.BitCells.{BitCells}
use Rattle.sram_plan.specs.declared.view.Abstract.{Abstract}
use Rattle.macro_layout.specs.LayoutKit.{LayoutKit}
use Rattle.macro_layout.specs.Places.{Floorplan, leaf_cell}
use Rattle.macro_layout.specs.Floorplan.{Tracks, upper_y}
use Rattle.macro_layout.specs.Layout.{IsOfLeaf}
use Rattle.macro_layout.specs.Stated.{IsOnFirstLayer, IsInMacro}
use Rattle.macro_layout.specs.Wires.{trunk_x, ground_x, IsSupplyTrunk, IsWireInMacro}
use Rattle.macro_views.specs.Boxes.{IsCoveredOn}
use Rattle.view_cover.specs.View.{IsViewOf}
use Rattle.view_cover.specs.Bits.{LiesWithin, LiesInCell}
use Rattle.view_cover.proofs.PlaceLaws.{image_within}
use Rattle.view_cover.proofs.LayerLaws.{IsFirst}
use Rattle.view_cover.proofs.FitLaws.{AreGiven, contents_end}
use Rattle.view_cover.proofs.LeafLaws.{leaf_stands}
use Rattle.view_cover.proofs.KindLaws.{IsWide, IsCut, IsPlain}
use Rattle.view_cover.proofs.BankLaws.{banks_wire}
use Rattle.view_cover.proofs.MainLaws.{IsPortTrunk, main_wire}
use Rattle.view_cover.proofs.SupplyLaws.{IsSupplyKind, power_wire, ground_wire}
use Rattle.view_cover.proofs.CoverLaws.{IsSpread, inner_covered, wide_covered, trunk_covered, port_covered}

-- A technology's metals and cuts are first with their numbers and differ, and a leaf's shapes on metals lie in its cell.
pub record AreLayers (layers : List Layer) (wire : Wire) (plan : Organization) (kit : LayoutKit) (bits : BitCells) (Flat : List ℕ → Shape → Type 0) : Type 0 where
  pub seven : AreSevenLayers wire
  pub metals : (metal : ℕ) → metal < 4 → IsFirst layers (slice_index wire.metals metal)
  pub cuts : (cut : ℕ) → cut < 3 → IsFirst layers (slice_index wire.cuts cut)
  pub leaves : (leaf : LeafInstance) → HasLeafInstance plan leaf → (metal : ℕ) (s : Shape) → metal < 4 → Flat (leaf_cell plan kit bits leaf) s → s.layer ≡ slice_index wire.metals metal → LiesInCell (kit.width (role plan leaf)) (kit.height (role plan leaf)) s.rect

module _ (layers : List Layer) (Flat : List ℕ → Shape → Type 0) (plan : Organization) (kit : LayoutKit) (bits : BitCells) (wire : Wire) (tracks : Tracks) (f : Floorplan) (view : Abstract) (g : AreGiven plan kit wire tracks f) (l : AreLayers layers wire plan kit bits Flat) (v : IsViewOf plan kit wire tracks f view) where
  spread_from : (w s end : ℤ) → (view : Abstract) → pos 1 ≤ℤ w → pos 1 ≤ℤ s → view.wire ≡ w → view.space ≡ s → view.pitch ≡ w +ℤ s → view.supply_x ≡ end +ℤ s → view.width ≡ (end +ℤ s) +ℤ (pos 2 *ℤ (w +ℤ s)) → IsSpread view end
  spread_from w s end view a b c d e h i = record {
    wire = omega (arith, ints, a, c);
    space = omega (arith, ints, b, d);
    pitch_is = omega (arith, ints, c, d, e);
    supply = omega (arith, ints, d, h);
    width = omega (arith, ints, e, h, i);
  }

  spread : IsSpread view (contents_end plan kit f)
  spread = spread_from wire.width wire.space (contents_end plan kit f) view g.sizes.width.from g.sizes.space.from v.wire_is v.space v.pitch_is v.supply_x v.width

  -- bounds of the layout are those of the view
  as_view : (later : ℤ) (r : Rect) → LiesWithin (pitch wire) (pos 0) later (upper_y kit f) r → LiesWithin view.pitch (pos 0) later view.height r
  as_view later r is = record { from = subst (λ (z : ℤ). z ≤ℤ r.x1) (sym v.pitch_is) is.from; above = is.above; to = is.to; below = subst (λ (z : ℤ). r.y2 ≤ℤ z) (sym v.height) is.below }

  later_fits : (end w s width : ℤ) → pos 1 ≤ℤ s → pos 1 ≤ℤ w → width ≡ (end +ℤ s) +ℤ (pos 2 *ℤ (w +ℤ s)) → (end +ℤ w) ≤ℤ width
  later_fits end w s width a b e = omega (arith, ints, a, b, e)

  ground_fits : (end w s width : ℤ) → pos 1 ≤ℤ s → pos 1 ≤ℤ w → width ≡ (end +ℤ s) +ℤ (pos 2 *ℤ (w +ℤ s)) → (((end +ℤ s) +ℤ (w +ℤ s)) +ℤ w) ≤ℤ width
  ground_fits end w s width a b e = omega (arith, ints, a, b, e)

  later_in : (contents_end plan kit f +ℤ wire.width) ≤ℤ view.width
  later_in = later_fits (contents_end plan kit f) wire.width wire.space view.width g.sizes.space.from g.sizes.width.from v.width

  ground_in : (ground_x plan kit wire f +ℤ wire.width) ≤ℤ view.width
  ground_in = ground_fits (contents_end plan kit f) wire.width wire.space view.width g.sizes.space.from g.sizes.width.from v.width

  -- Layers

  one_metal : (a b : ℕ) → a < 4 → b < 4 → slice_index wire.metals a ≡ slice_index wire.metals b → a ≡ b
  one_metal a b few lt e = order (cases_lt a b) where
    order : (a < b) ⊎ (b ≤ a) → a ≡ b
    order (inl less) = absurd (l.seven.metals a b less lt e)
    order (inr more) = again (cases_lt b a) more where
      again : (b < a) ⊎ (a ≤ b) → b ≤ a → a ≡ b
      again (inl less) more = absurd (l.seven.metals b a less few (sym e))
      again (inr le) more = omega (arith, le, more)

  -- what is drawn on a first layer is on it
  seen_at : (Drawn : Shape → Type 0) (s : Shape) (index : ℕ) → IsFirst layers index → (o : IsOnFirstLayer layers Drawn s) → o.wire.layer ≡ index → s.layer ≡ index
  seen_at Drawn s index first o at = first o.layer s.layer (subst (λ (k : ℕ). slice_get layers k ≡ Some o.layer) at o.on) o.first

  no_cut : (Drawn : Shape → Type 0) (s : Shape) (metal : ℕ) → metal < 4 → s.layer ≡ slice_index wire.metals metal → (o : IsOnFirstLayer layers Drawn s) → IsCut wire o.wire → ⊥
  no_cut Drawn s metal lt on o cut = l.seven.others cut.cut metal cut.few lt (sym (seen_at Drawn s (slice_index wire.cuts cut.cut) (l.cuts cut.cut cut.few) o cut.on) ∙ on)

  same_metal : (Drawn : Shape → Type 0) (s : Shape) (metal k : ℕ) → metal < 4 → k < 4 → s.layer ≡ slice_index wire.metals metal → (o : IsOnFirstLayer layers Drawn s) → o.wire.layer ≡ slice_index wire.metals k → k ≡ metal
  same_metal Drawn s metal k lt few on o at = one_metal k metal few lt (sym (seen_at Drawn s (slice_index wire.metals k) (l.metals k few) o at) ∙ on)

  on_rect : (Drawn : Shape → Type 0) (s : Shape) (metal : ℕ) → (o : IsOnFirstLayer layers Drawn s) → IsCoveredOn view metal o.wire.rect → IsCoveredOn view metal s.rect
  on_rect Drawn s metal o covered = subst (IsCoveredOn view metal) (sym o.rect) covered

  -- Kinds

  wide_is : (Drawn : Shape → Type 0) (s : Shape) (metal : ℕ) (later : ℤ) → metal < 4 → s.layer ≡ slice_index wire.metals metal → (o : IsOnFirstLayer layers Drawn s) → later ≤ℤ view.width → IsWide wire (pitch wire) later (upper_y kit f) o.wire → IsCoveredOn view metal s.rect
  wide_is Drawn s metal later lt on o fits w =
      let same = same_metal Drawn s metal w.metal lt w.few on o w.on in
      on_rect Drawn s metal o (wide_covered view (contents_end plan kit f) later metal o.wire.rect spread (subst (λ (k : ℕ). k ≢ 1) same w.other) fits (as_view later o.wire.rect w.within))

  plain_is : (Drawn : Shape → Type 0) (s : Shape) (metal : ℕ) → metal < 4 → s.layer ≡ slice_index wire.metals metal → (o : IsOnFirstLayer layers Drawn s) → IsPlain wire (pitch wire) (contents_end plan kit f) (contents_end plan kit f +ℤ wire.width) (upper_y kit f) o.wire → IsCoveredOn view metal s.rect
  plain_is Drawn s metal lt on o (inl within) = on_rect Drawn s metal o (inner_covered view (contents_end plan kit f) metal o.wire.rect spread (as_view (contents_end plan kit f) o.wire.rect within))
  plain_is Drawn s metal lt on o (inr (inl wide)) = wide_is Drawn s metal (contents_end plan kit f +ℤ wire.width) lt on o later_in wide
  plain_is Drawn s metal lt on o (inr (inr cut)) = absurd (no_cut Drawn s metal lt on o cut)

  port_is : (Drawn : Shape → Type 0) (s : Shape) (metal : ℕ) → metal < 4 → s.layer ≡ slice_index wire.metals metal → (o : IsOnFirstLayer layers Drawn s) → IsPortTrunk plan kit wire tracks f g o.wire → IsCoveredOn view metal s.rect
  port_is Drawn s metal lt on o p =
      let same : 2 ≡ metal = same_metal Drawn s metal 2 lt (omega arith) on o p.on in
      let pin = v.signals p.number p.y p.port p.trunk in
      let w = p.within in
      let placed : LiesWithin (pos 0) (pos 0) (contents_end plan kit f +ℤ wire.width) view.height o.wire.rect = record { from = w.from; above = w.above; to = w.to; below = subst (λ (z : ℤ). o.wire.rect.y2 ≤ℤ z) (sym v.height) w.below } in
      on_rect Drawn s metal o (subst (λ (k : ℕ). IsCoveredOn view k o.wire.rect) same
      (port_covered view (contents_end plan kit f +ℤ wire.width) pin.0 o.wire.rect pin.1 (p.low ∙ sym pin.2) (p.high ∙ (λ i. sym pin.2 i +ℤ sym v.wire_is i)) later_in placed))

  supply_is : (Drawn : Shape → Type 0) (s : Shape) (metal : ℕ) → metal < 4 → s.layer ≡ slice_index wire.metals metal → (o : IsOnFirstLayer layers Drawn s) → IsSupplyKind plan kit wire tracks f g o.wire → IsCoveredOn view metal s.rect
  supply_is Drawn s metal lt on o (inl wide) = wide_is Drawn s metal (ground_x plan kit wire f +ℤ wire.width) lt on o ground_in wide
  supply_is Drawn s metal lt on o (inr cut) = absurd (no_cut Drawn s metal lt on o cut)

  trunk_is : (Drawn : Shape → Type 0) (s : Shape) (metal : ℕ) (x : ℤ) → metal < 4 → s.layer ≡ slice_index wire.metals metal → (o : IsOnFirstLayer layers Drawn s) → (x ≡ view.supply_x) ⊎ (x ≡ view.supply_x +ℤ view.pitch) → IsSupplyTrunk kit wire f x o.wire → IsCoveredOn view metal s.rect
  trunk_is Drawn s metal x lt on o place t =
      let same : 1 ≡ metal = same_metal Drawn s metal 1 lt (omega arith) on o t.on in
      let left = t.left in
      let low = t.low in
      let right = t.right ∙ ap (λ (w : ℤ). x +ℤ w) (sym v.wire_is) in
      let high = t.high ∙ sym v.height in
      on_rect Drawn s metal o (subst (λ (k : ℕ). IsCoveredOn view k o.wire.rect) same (trunk_covered view x o.wire.rect place (record { from = at_most left; above = at_most low; to = at_least right; below = at_least high })))
    where
      at_most : {a b : ℤ} → a ≡ b → b ≤ℤ a
      at_most e = omega (arith, ints, e)

      at_least : {a b : ℤ} → a ≡ b → a ≤ℤ b
      at_least e = omega (arith, ints, e)

  -- The layout

  power_at : trunk_x plan kit wire f ≡ view.supply_x
  power_at = sym v.supply_x

  ground_at : ground_x plan kit wire f ≡ view.supply_x +ℤ view.pitch
  ground_at = λ i. sym v.supply_x i +ℤ sym v.pitch_is i

  macro_is : (s : Shape) (metal : ℕ) → metal < 4 → s.layer ≡ slice_index wire.metals metal → (o : IsOnFirstLayer layers (IsWireInMacro plan kit wire tracks f) s) → IsWireInMacro plan kit wire tracks f o.wire → IsCoveredOn view metal s.rect
  macro_is s metal lt on o (inl channel) = elim (main_wire plan kit wire tracks f g o.wire channel) [
    | inl plain ↦ plain_is _ s metal lt on o plain
    | inr port ↦ port_is _ s metal lt on o port
  ]
  macro_is s metal lt on o (inr (inl power)) = elim (power_wire plan kit wire tracks f g o.wire power) [
    | inl trunk ↦ trunk_is _ s metal (trunk_x plan kit wire f) lt on o (inl power_at) trunk
    | inr supply ↦ supply_is _ s metal lt on o supply
  ]
  macro_is s metal lt on o (inr (inr ground)) = elim (ground_wire plan kit wire tracks f g o.wire ground) [
    | inl trunk ↦ trunk_is _ s metal (ground_x plan kit wire f) lt on o (inr ground_at) trunk
    | inr supply ↦ supply_is _ s metal lt on o supply
  ]

  leaf_is : (s : Shape) (metal : ℕ) → metal < 4 → s.layer ≡ slice_index wire.metals metal → IsOfLeaf plan kit bits f IsShapeTaken Flat s → IsCoveredOn view metal s.rect
  leaf_is s metal lt on o =
      let t = o.taken in
      let r = role plan o.leaf in
      let inside = l.leaves o.leaf o.has metal t.inner lt t.has (sym t.moved.layer ∙ on) in
      let stands = leaf_stands plan kit wire tracks f g o.leaf o.place o.has o.stands in
      inner_covered view (contents_end plan kit f) metal s.rect spread
      (as_view (contents_end plan kit f) s.rect (image_within (pitch wire) (contents_end plan kit f) (upper_y kit f) (kit.width r) (kit.height r) o.place t.inner.rect s.rect stands inside t.moved.image))

  pub layout_is : (s : Shape) (metal : ℕ) → metal < 4 → s.layer ≡ slice_index wire.metals metal → IsInMacro layers Flat plan kit bits wire tracks f s → IsCoveredOn view metal s.rect
  layout_is s metal lt on (inl o) = macro_is s metal lt on o o.drawn
  layout_is s metal lt on (inr (inl o)) = plain_is _ s metal lt on o (banks_wire plan kit wire tracks f g o.wire o.drawn)
  layout_is s metal lt on (inr (inr o)) = leaf_is s metal lt on o
