-- No cut of wires holds a point of a leaf instance's zone.
use Rattle.std.proofs.Common.{◌≡◌, ℕ, zero, suc, ◌<◌, ℤ, pos, ◌+ℤ◌, ◌-ℤ◌, ◌≤ℤ◌, ◌<ℤ◌, arith}
use Rattle.std.specs.Prelude.{slice_index}
use Rattle.std.proofs.lemmas.Int.{ints}
use Rattle.or_geom.specs.declared.shape.Point.{Point}
use Rattle.or_geom.specs.declared.shape.Rect.{Rect}
use Rattle.or_geom.specs.declared.shape.Shape.{Shape}
use Rattle.or_geom.specs.Joined.{IsIn}
use Rattle.shape_bins.specs.Meets.{Overlap}
use Rattle.tech_rules.specs.declared.tech.Wire.{Wire}
use Rattle.tech_rules.specs.WireRules.{margin}
use Rattle.tech_rules.proofs.WireLaws.{margin_positive}
use Rattle.sram_netlist.specs.Organization.{Organization}
use Rattle.macro_layout.specs.LayoutKit.{LayoutKit}
use Rattle.macro_layout.specs.Places.{Floorplan}
use Rattle.macro_layout.specs.Floorplan.{Tracks}
use Rattle.macro_layout.specs.Wires.{trunk_x}
use Rattle.good_places.specs.Leaves.{Zone, LiesNear}
use Rattle.good_wires.specs.Drawn.{IsDrawnMemory, IsDrawnWire}
use Rattle.good_wires.proofs.ClearLaws.{ZoneKind, cut_clear}
use Rattle.supply_bars.specs.Heights.{trunk_by, is_power}
use Rattle.supply_bars.proofs.HeightLaws.{on_cut}
use Rattle.supply_bars.proofs.PartLaws.{trunks}
use Rattle.upright_covers.proofs.AtLaws.{zone_before_trunk}

-- a square around a point
side : (x : ℤ) → (x -ℤ pos 1) <ℤ (x +ℤ pos 1)
side x = omega (arith, ints)

abbrev around : Point → Rect
around p = record { x1 = p.x -ℤ pos 1; y1 = p.y -ℤ pos 1; x2 = p.x +ℤ pos 1; y2 = p.y +ℤ pos 1; wide = side p.x; tall = side p.y }

module _ (plan : Organization) (kit : LayoutKit) (wire : Wire) (tracks : Tracks) (f : Floorplan) (m : IsDrawnMemory plan kit wire tracks f) (z : Zone) (kind : ZoneKind plan kit wire tracks f m z) (a : Rect) (p : Point) (lies : LiesNear (pos 0) z a) (in_a : IsIn a p) where
  at_trunk : (s : Shape) → s.layer ≡ slice_index wire.cuts 0 → IsDrawnWire plan kit wire tracks f s → IsIn s.rect p → ⊥
  at_trunk s on is in_s =
      let c = on_cut plan kit wire tracks f m s on is in
      go (trunk_x plan kit wire f) (trunk_by plan kit wire f (is_power c.0)) (margin wire) s.rect.x1 z.right wire.space (trunks plan kit wire tracks f m (is_power c.0)) (margin_positive wire m.laid.sizes) c.1.via.left in_s.left in_a.right lies.right (zone_before_trunk plan kit wire tracks f m z kind) m.laid.sizes.space.from
    where
      go : (t u e x1 r sp : ℤ) → t ≤ℤ u → pos 1 ≤ℤ e → x1 ≡ u +ℤ e → x1 ≤ℤ p.x → p.x ≤ℤ a.x2 → a.x2 ≤ℤ (r +ℤ pos 0) → (r +ℤ sp) ≤ℤ t → pos 1 ≤ℤ sp → ⊥
      go t u e x1 r sp h1 h2 h3 h4 h5 h6 h7 h8 = omega (arith, ints, h1, h2, h3, h4, h5, h6, h7, h8)

  pub no_cut_there : (k : ℕ) → k < 3 → (s : Shape) → s.layer ≡ slice_index wire.cuts k → IsDrawnWire plan kit wire tracks f s → IsIn s.rect p → ⊥
  no_cut_there zero few s on is in_s = at_trunk s on is in_s
  no_cut_there (suc k) few s on is in_s = cut_clear plan kit wire tracks f m (suc k) few (omega arith) z (around p) kind near s on is over where
    near : LiesNear wire.space z (around p)
    near =
        let sp = m.laid.sizes.space.from in
        record {
          left = let l = lies.left in let h = in_a.left in omega (arith, ints, sp, l, h);
          right = let l = lies.right in let h = in_a.right in omega (arith, ints, sp, l, h);
          low = let l = lies.low in let h = in_a.low in omega (arith, ints, sp, l, h);
          high = let l = lies.high in let h = in_a.high in omega (arith, ints, sp, l, h);
        }

    over : Overlap s.rect (around p)
    over = record { left = let h = in_s.left in omega (arith, ints, h); right = let h = in_s.right in omega (arith, ints, h); low = let h = in_s.low in omega (arith, ints, h); high = let h = in_s.high in omega (arith, ints, h) }
