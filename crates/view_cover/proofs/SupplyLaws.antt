-- The bars of vdd and gnd lie between the pitch at the left side and the trunk of gnd.
use Rattle.std.proofs.Common.{◌≡◌, ◌⊎◌, inl, inr, ℕ, ◌+◌, ◌*◌, ◌<◌, ◌≤◌, ℤ, pos, ◌+ℤ◌, ◌-ℤ◌, ◌≤ℤ◌, sym, subst, arith}
use Rattle.std.proofs.lemmas.Int.{ints}
use Rattle.or_geom.specs.declared.shape.Shape.{Shape}
use Rattle.cell_roles.specs.declared.role.Role.TheVariants.{Inv, Bitcell}
use Rattle.tech_rules.specs.declared.tech.Wire.{Wire}
use Rattle.wire_drawing.specs.Drawing.{pitch}
use Rattle.sram_netlist.specs.Organization.{Organization, bank_rows}
use Rattle.macro_layout.specs.LayoutKit.{LayoutKit}
use Rattle.macro_layout.specs.Places.{Floorplan, columns_x, bit_height}
use Rattle.macro_layout.specs.Floorplan.{Tracks, column_channel_y, upper_y}
use Rattle.macro_layout.specs.Wires.{trunk_x, ground_x, IsSupplyTrunk, IsBar, row_y, IsPowerBarAt, IsGroundBarAt, IsPowerWire, IsGroundWire}
use Rattle.view_cover.proofs.FitLaws.{AreGiven, rises, reaches}
use Rattle.view_cover.proofs.LeafLaws.{array_upper, channel_upper, inv_upper}
use Rattle.view_cover.proofs.KindLaws.{IsWide, IsCut, via_cut, wide_box, not_first, chain}
use Rattle.view_cover.proofs.NumberLaws.{all_of}

module _ (plan : Organization) (kit : LayoutKit) (wire : Wire) (tracks : Tracks) (f : Floorplan) (g : AreGiven plan kit wire tracks f) where
  -- a wire or cut of the supplies, but for their trunks
  abbrev pub IsSupplyKind : Shape → Type 0
  IsSupplyKind s = IsWide wire (pitch wire) (ground_x plan kit wire f +ℤ wire.width) (upper_y kit f) s ⊎ IsCut wire s

  -- where a bar may begin
  record IsBarPlace (x y : ℤ) : Type 0 where
    from : pitch wire ≤ℤ x
    above : pos 0 ≤ℤ y
    below : (y +ℤ wire.width) ≤ℤ upper_y kit f

  bar : (trunk x y : ℤ) (s : Shape) → trunk ≤ℤ ground_x plan kit wire f → IsBarPlace x y → IsBar wire trunk x y s → IsSupplyKind s
  bar trunk x y s le place (inl box) = inl (wide_box wire 0 x y (trunk +ℤ wire.width) (y +ℤ wire.width) (pitch wire) (ground_x plan kit wire f +ℤ wire.width) (upper_y kit f) s (omega arith) not_first box place.from place.above (by trunk (ground_x plan kit wire f) wire.width le) place.below) where
    by : (a b w : ℤ) → a ≤ℤ b → (a +ℤ w) ≤ℤ (b +ℤ w)
    by a b w e = omega (arith, ints, e)
  bar trunk x y s le place (inr via) = inr (via_cut wire 0 trunk y s (omega arith) via)

  -- the places where bars begin

  logic_from : pitch wire ≤ℤ f.logic_x
  logic_from = let e = g.stands.logic_x in omega (arith, ints, e)

  rows_from : pitch wire ≤ℤ f.row_x
  rows_from = (reaches plan kit wire tracks f g).to_row

  columns_from : pitch wire ≤ℤ columns_x plan kit f
  columns_from = chain (pitch wire) f.row_x (columns_x plan kit f) rows_from (reaches plan kit wire tracks f g).to_columns

  place : (x y x2 y2 : ℤ) → x ≡ x2 → y ≡ y2 → pitch wire ≤ℤ x2 → pos 0 ≤ℤ y2 → (y2 +ℤ wire.width) ≤ℤ upper_y kit f → IsBarPlace x y
  place x y x2 y2 p q a b c = record {
    from = subst (λ (z : ℤ). pitch wire ≤ℤ z) (sym p) a;
    above = subst (λ (z : ℤ). pos 0 ≤ℤ z) (sym q) b;
    below = subst (λ (z : ℤ). (z +ℤ wire.width) ≤ℤ upper_y kit f) (sym q) c;
  }

  row_room : (y0 y1 w up : ℤ) (r rows b : ℕ) → r * b + b ≤ rows * b → y1 ≡ y0 +ℤ pos (rows * b) → w ≤ℤ pos b → pos 0 ≤ℤ y0 → y1 ≤ℤ up → (pos 0 ≤ℤ (y0 +ℤ pos (r * b))) × (((y0 +ℤ pos (r * b)) +ℤ w) ≤ℤ up)
  row_room y0 y1 w up r rows b le is few low high = (omega (arith, ints, low), omega (arith, ints, le, is, few, high))

  precharge_upper : f.precharge_y ≤ℤ upper_y kit f
  precharge_upper = let r = rises plan kit wire tracks f g in let a = r.to_upper in let b = r.wire in omega (arith, ints, a, b)

  array_low : pos 0 ≤ℤ f.array_y
  array_low =
      let r = rises plan kit wire tracks f g in
      let a = r.wire in let b = r.to_inv in let c = r.to_write in let d = r.to_sense in let e = r.to_channel in let h = r.to_column in let i = r.to_array in
      omega (arith, ints, a, b, c, d, e, h, i)

  row_place : (x y : ℤ) (r : ℕ) → r < bank_rows plan → x ≡ f.row_x → y ≡ row_y kit f r → IsBarPlace x y
  row_place x y r lt p q =
      let room = row_room f.array_y f.precharge_y wire.width (upper_y kit f) r (bank_rows plan) (bit_height kit) (all_of r (bank_rows plan) (bit_height kit) lt) g.stands.precharge_y (g.fits.tall Bitcell) array_low precharge_upper in
      place x y f.row_x (row_y kit f r) p q rows_from room.0 room.1

  power_place : (x y : ℤ) → IsPowerBarAt plan kit wire f x y → IsBarPlace x y
  power_place x y (inl h) =
      let r = rises plan kit wire tracks f g in let a = r.to_inv in let b = inv_upper plan kit wire tracks f g in
      place x y f.logic_x (pos (kit.height Inv) -ℤ wire.width) h.0 h.1 logic_from (omega (arith, ints, a)) (omega (arith, ints, b))
  power_place x y (inr (inl h)) =
      let r = rises plan kit wire tracks f g in let a = r.wire in let b = r.to_inv in let c = r.to_write in let d = r.to_sense in let e = r.to_channel in let u = channel_upper plan kit wire tracks f g in
      place x y (columns_x plan kit f) f.write_y h.1 h.2 columns_from (omega (arith, ints, a, b, c)) (omega (arith, ints, d, e, u))
  power_place x y (inr (inr (inl h))) =
      let r = rises plan kit wire tracks f g in let a = r.wire in let b = r.to_inv in let c = r.to_write in let d = r.to_sense in let e = r.to_channel in let u = channel_upper plan kit wire tracks f g in
      place x y (columns_x plan kit f) (column_channel_y kit f -ℤ wire.width) h.0 h.1 columns_from (omega (arith, ints, a, b, c, d, e)) (omega (arith, ints, u))
  power_place x y (inr (inr (inr (inl h)))) =
      let r = rises plan kit wire tracks f g in let a = r.wire in let b = r.to_inv in let c = r.to_write in let d = r.to_sense in let e = r.to_channel in let k = r.to_column in let l = r.to_array in let u = array_upper plan kit wire tracks f g in
      place x y (columns_x plan kit f) f.column_y h.0 h.1 columns_from (omega (arith, ints, a, b, c, d, e, k)) (omega (arith, ints, l, u))
  power_place x y (inr (inr (inr (inr (inl (r, lt, odd, at_x, at_y)))))) = row_place x y r lt at_x at_y
  power_place x y (inr (inr (inr (inr (inr h))))) =
      let r = rises plan kit wire tracks f g in let a = r.to_upper in let b = array_low in let c = r.to_precharge in
      place x y (columns_x plan kit f) (upper_y kit f -ℤ wire.width) h.0 h.1 columns_from (omega (arith, ints, a, b, c)) (omega (arith, ints))

  ground_place : (x y : ℤ) → IsGroundBarAt plan kit f x y → IsBarPlace x y
  ground_place x y (inl h) =
      let r = rises plan kit wire tracks f g in let a = r.to_inv in let b = inv_upper plan kit wire tracks f g in
      place x y f.logic_x (pos 0) h.0 h.1 logic_from (omega (arith, ints)) (omega (arith, ints, a, b))
  ground_place x y (inr (inl h)) =
      let r = rises plan kit wire tracks f g in let a = r.wire in let b = r.to_inv in let c = r.to_write in let d = r.to_sense in let e = r.to_channel in let u = channel_upper plan kit wire tracks f g in
      place x y (columns_x plan kit f) f.sense_y h.0 h.1 columns_from (omega (arith, ints, a, b, c, d)) (omega (arith, ints, e, u))
  ground_place x y (inr (inr (inl (r, lt, even, at_x, at_y)))) = row_place x y r lt at_x at_y
  ground_place x y (inr (inr (inr h))) =
      let r = rises plan kit wire tracks f g in let a = r.to_upper in let b = array_low in let c = r.to_precharge in
      place x y f.row_x f.precharge_y h.0 h.1 rows_from (omega (arith, ints, b, c)) a

  power_behind : trunk_x plan kit wire f ≤ℤ ground_x plan kit wire f
  power_behind = by (trunk_x plan kit wire f) (pitch wire) (reaches plan kit wire tracks f g).pitch_up where
    by : (a p : ℤ) → pos 0 ≤ℤ p → a ≤ℤ (a +ℤ p)
    by a p e = omega (arith, ints, e)

  ground_behind : ground_x plan kit wire f ≤ℤ ground_x plan kit wire f
  ground_behind = by (ground_x plan kit wire f) where
    by : (a : ℤ) → a ≤ℤ a
    by a = omega (arith, ints)

  pub power_wire : (s : Shape) → IsPowerWire plan kit wire f s → IsSupplyTrunk kit wire f (trunk_x plan kit wire f) s ⊎ IsSupplyKind s
  power_wire s (inl trunk) = inl trunk
  power_wire s (inr (x, y, at, is)) = inr (bar (trunk_x plan kit wire f) x y s power_behind (power_place x y at) is)

  pub ground_wire : (s : Shape) → IsGroundWire plan kit wire f s → IsSupplyTrunk kit wire f (ground_x plan kit wire f) s ⊎ IsSupplyKind s
  ground_wire s (inl trunk) = inl trunk
  ground_wire s (inr (x, y, at, is)) = inr (bar (ground_x plan kit wire f) x y s ground_behind (ground_place x y at) is)
