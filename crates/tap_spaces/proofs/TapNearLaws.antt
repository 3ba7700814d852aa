-- A tap near a shape of a leaf instance stands in a small memory too, as far as the shape's frame goes.
use Rattle.std.proofs.Common.{◌≡◌, ◌⊎◌, inl, inr, ℕ, ℤ, pos, ◌+ℤ◌, ◌≤ℤ◌, ◌<ℤ◌, sym, ap, subst, arith}
use Rattle.std.specs.Prelude.{slice_index}
use Rattle.std.proofs.lemmas.Int.{ints}
use Rattle.or_geom.specs.declared.shape.Rect.{Rect}
use Rattle.or_geom.specs.declared.shape.Shape.{Shape}
use Rattle.shape_bins.specs.Meets.{Overlap}
use Rattle.cell_roles.specs.declared.role.Role.TheVariants.{Inv}
use Rattle.tech_rules.specs.declared.tech.Wire.{Wire}
use Rattle.channel_router.specs.Wires.{track_y}
use Rattle.sram_netlist.specs.Organization.{Organization}
use Rattle.macro_layout.specs.LayoutKit.{LayoutKit}
use Rattle.macro_layout.specs.Places.{Floorplan, bit_width}
use Rattle.macro_layout.specs.Floorplan.{Tracks, column_channel_y}
use Rattle.good_places.specs.Leaves.{Zone, LiesNear}
use Rattle.good_places.specs.Seen.{IsMovedZone}
use Rattle.good_places.specs.Windows.{with_bits}
use Rattle.good_wires.specs.Drawn.{IsDrawnMemory, IsDrawnWire}
use Rattle.good_wires.proofs.LevelLaws.{Levels, levels}
use Rattle.good_wires.proofs.TapLaws.{tap_low}
use Rattle.good_wires.proofs.ClearLaws.{write_high, column_high}
use Rattle.good_wires.proofs.ThirdLaws.{IsMainTrunk, IsColumnTrunk, IsTap, on_third}
use Rattle.tap_spaces.proofs.TapWindowLaws.{AreTapZones}
use Rattle.tap_spaces.proofs.TapImageLaws.{up, over}
use Rattle.tap_spaces.proofs.TapKindLaws.{IsRowTap, IsPrechargeTap, IsSenseTap, upper_kind, slice_kind}
use Rattle.tap_spaces.proofs.TapPutLaws.{HasTapImage, columns, fronts, slices}

module _ (base : Organization) (kit : LayoutKit) (wire : Wire) (w1 r1 m1 w2 r2 m2 : ℕ) (tracks many : Tracks) (f g : Floorplan) (m : IsDrawnMemory (with_bits base w1 r1 m1) kit wire tracks f) (n : IsDrawnMemory (with_bits base w2 r2 m2) kit wire many g)
    (min dx dy : ℤ) (some : pos 1 ≤ℤ min) (small : min ≤ℤ wire.space) (narrow : min ≤ℤ pos (bit_width kit)) (here there : Zone) (same : IsMovedZone dx dy here there) (frame : Rect) (around : LiesNear min here frame) where
  abbrev plan : Organization
  plan = with_bits base w1 r1 m1

  abbrev other : Organization
  other = with_bits base w2 r2 m2

  abbrev IsThere : Shape → Type 0
  IsThere = IsDrawnWire other kit wire many g

  abbrev Tap : Shape → Type 0
  Tap b = IsTap plan kit wire tracks f m b

  l : Levels plan kit wire f
  l = levels plan kit wire tracks f m.laid.sizes m.stands

  from : (a b : ℤ) → b ≡ a → a ≤ℤ b
  from a b e = omega (arith, ints, e)

  within : min ≤ℤ (wire.space +ℤ wire.width)
  within = let w = m.laid.sizes.width.from in omega (arith, ints, small, w)

  upper : (b : Shape) (t : Tap b) → here.low ≡ f.column_y → Overlap b.rect frame → IsRowTap plan kit wire tracks f m t.tap.net t.y t.end ⊎ IsPrechargeTap plan kit wire tracks f m t.tap.net t.y t.end
  upper b t low cover = upper_kind plan kit wire tracks f m t.x t.y t.end t.tap frame.y1 min (subst (λ (q : ℤ). q ≤ℤ (frame.y1 +ℤ min)) low around.low) small (subst (λ (q : ℤ). frame.y1 <ℤ q) t.drawn.high cover.high)

  lower : (b : Shape) (t : Tap b) → here.high ≡ column_channel_y kit f → Overlap b.rect frame → IsSenseTap plan kit wire tracks f m t.tap.net t.y t.end
  lower b t high cover = slice_kind plan kit wire tracks f m t.x t.y t.end t.tap frame.y2 min (subst (λ (q : ℤ). frame.y2 ≤ℤ (q +ℤ min)) high around.high) small (subst (λ (q : ℤ). q <ℤ frame.y2) t.drawn.low cover.low)

  -- the logic row no tap comes near
  no_tap : (b : Shape) (t : Tap b) → Overlap b.rect frame → here.high ≤ℤ pos (kit.height Inv) → ⊥
  no_tap b t cover high =
      let low = tap_low plan kit wire tracks f t.x t.y t.end m t.tap in
      go b.rect.y1 t.y f.write_y here.high (pos (kit.height Inv)) wire.space t.drawn.low low (write_high plan kit wire tracks f m) high cover.low around.high small
    where
      go : (b1 y w hh inv s : ℤ) → b1 ≡ y → w ≤ℤ y → (inv +ℤ s) ≤ℤ w → hh ≤ℤ inv → b1 <ℤ frame.y2 → frame.y2 ≤ℤ (hh +ℤ min) → min ≤ℤ s → ⊥
      go b1 y w hh inv s is low up high over to less = omega (arith, ints, is, low, up, high, over, to, less)

  tap_near : (b : Shape) (t : Tap b) → Overlap b.rect frame → AreTapZones plan other kit f g here there → HasTapImage dx dy frame IsThere b
  tap_near b t cover (inl z) = columns base kit wire w1 r1 m1 w2 r2 m2 tracks many f g m n min dx dy some within narrow here there same frame around b t cover z (upper b t (ap (λ (q : Zone). q.low) z.here_is) cover)
  tap_near b t cover (inr (inl z)) = fronts base kit wire w1 r1 m1 w2 r2 m2 tracks many f g m n min dx dy some within narrow here there same frame around b t cover z (upper b t (ap (λ (q : Zone). q.low) z.here_is) cover)
  tap_near b t cover (inr (inr (inl z))) = slices base kit wire w1 r1 m1 w2 r2 m2 tracks many f g m n min dx dy some within narrow here there same frame around b t cover z (lower b t (ap (λ (q : Zone). q.high) z.here_is) cover)
  tap_near b t cover (inr (inr (inr z))) = absurd (no_tap b t cover z.here_high)

  -- a trunk of a channel keeps away from zones: at this height, in the main channel or in the column channel
  abbrev Level : Type 0
  Level = (f.column_y ≤ℤ here.low) ⊎ (((f.write_y ≤ℤ here.low) × (here.high ≤ℤ column_channel_y kit f)) ⊎ (here.high ≤ℤ pos (kit.height Inv)))

  level : AreTapZones plan other kit f g here there → Level
  level (inl z) = inl (from f.column_y here.low (ap (λ (q : Zone). q.low) z.here_is))
  level (inr (inl z)) = inl (from f.column_y here.low (ap (λ (q : Zone). q.low) z.here_is))
  level (inr (inr (inl z))) = inr (inl (from f.write_y here.low (ap (λ (q : Zone). q.low) z.here_is), from here.high (column_channel_y kit f) (sym (ap (λ (q : Zone). q.high) z.here_is))))
  level (inr (inr (inr z))) = inr (inr z.here_high)

  above : (low y2 b2 : ℤ) → (y2 +ℤ wire.space) ≤ℤ low → low ≤ℤ here.low → b2 ≡ y2 → frame.y1 <ℤ b2 → ⊥
  above low y2 b2 a c e cover = let from = around.low in omega (arith, ints, a, c, e, cover, from, small)

  under : (high y b1 : ℤ) → (high +ℤ wire.space) ≤ℤ y → here.high ≤ℤ high → b1 ≡ y → b1 <ℤ frame.y2 → ⊥
  under high y b1 a c e cover = let to = around.high in omega (arith, ints, a, c, e, cover, to, small)

  no_main : (b : Shape) → IsMainTrunk plan kit wire tracks f m b → Overlap b.rect frame → Level → ⊥
  no_main b t cover (inl high) = above f.column_y (t.y +ℤ wire.width) b.rect.y2 (let u = t.under in let c = column_high plan kit wire tracks f m in omega (arith, ints, u, c)) high t.drawn.high cover.high
  no_main b t cover (inr (inl slices)) = above f.write_y (t.y +ℤ wire.width) b.rect.y2 t.under slices.0 t.drawn.high cover.high
  no_main b t cover (inr (inr low)) = under (pos (kit.height Inv)) t.y b.rect.y1 t.above low t.drawn.low cover.low

  no_column : (b : Shape) → IsColumnTrunk plan kit wire tracks f m b → Overlap b.rect frame → Level → ⊥
  no_column b t cover (inl high) = above f.column_y (track_y m.column.channel.low wire t.t +ℤ wire.width) b.rect.y2 t.under high t.drawn.high cover.high
  no_column b t cover (inr (inl slices)) = under (column_channel_y kit f) (track_y m.column.channel.low wire t.t) b.rect.y1 t.above slices.1 t.drawn.low cover.low
  no_column b t cover (inr (inr low)) =
      let a = t.above in
      let c = l.channel in
      let e = l.sense in
      let w = write_high plan kit wire tracks f m in
      let s = m.laid.sizes.space.from in
      under (pos (kit.height Inv)) (track_y m.column.channel.low wire t.t) b.rect.y1 (omega (arith, ints, a, c, e, w, s)) low t.drawn.low cover.low

  -- each wire on the third metal that reaches into the frame
  pub wire_moves : (b : Shape) → IsDrawnWire plan kit wire tracks f b → b.layer ≡ slice_index wire.metals 2 → Overlap b.rect frame → AreTapZones plan other kit f g here there → HasTapImage dx dy frame IsThere b
  wire_moves b is on cover z = elim (on_third plan kit wire tracks f m b on is) [
    | inl main ↦ absurd (no_main b main cover (level z))
    | inr rest ↦ elim rest [
      | inl column ↦ absurd (no_column b column cover (level z))
      | inr tap ↦ tap_near b tap cover z
    ]
  ]
