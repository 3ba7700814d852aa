-- Bars of supplies stand between the lower and the upper edge of the macro.
use Rattle.std.proofs.Common.{◌≡◌, inl, inr, ℕ, ◌+◌, ◌*◌, ◌<◌, ◌≤◌, ℤ, pos, ◌+ℤ◌, ◌-ℤ◌, ◌*ℤ◌, ◌≤ℤ◌, refl, sym, subst, arith}
use Rattle.std.proofs.Math.Nat.{mul-le-mul_right}
use Rattle.std.proofs.lemmas.Int.{ints}
use Rattle.tech_rules.specs.declared.tech.Wire.{Wire}
use Rattle.wire_drawing.specs.Drawing.{pitch}
use Rattle.cell_roles.specs.declared.role.Role.TheVariants.{Inv, Sense, Bitcell, Precharge}
use Rattle.sram_netlist.specs.Organization.{Organization}
use Rattle.macro_layout.specs.LayoutKit.{LayoutKit}
use Rattle.macro_layout.specs.Places.{Floorplan}
use Rattle.macro_layout.specs.Floorplan.{Tracks, column_channel_y, upper_y}
use Rattle.macro_layout.specs.Wires.{IsPowerBarAt, IsGroundBarAt}
use Rattle.good_places.proofs.NumberLaws.{times_low}
use Rattle.good_wires.specs.Drawn.{IsDrawnMemory}
use Rattle.good_wires.proofs.LevelLaws.{Levels, levels, pitch_low}
use Rattle.cell_roles.specs.declared.role.Role.{Role}
use Rattle.macro_layout.specs.Floorplan.{column_role}
use Rattle.macro_layout.specs.Places.{bit_height}
use Rattle.macro_layout.specs.Wires.{row_y}
use Rattle.sram_netlist.specs.Organization.{bank_rows}

pub same : (z : ℤ) → z ≤ℤ z
same z = omega (arith, ints)

-- a wire's height from there lies between the edges
pub record FitsInside (kit : LayoutKit) (wire : Wire) (f : Floorplan) (y : ℤ) : Type 0 where
  pub low : pos 0 ≤ℤ y
  pub high : (y +ℤ wire.width) ≤ℤ upper_y kit f

module _ (plan : Organization) (kit : LayoutKit) (wire : Wire) (tracks : Tracks) (f : Floorplan) (m : IsDrawnMemory plan kit wire tracks f) where
  l : Levels plan kit wire f
  l = levels plan kit wire tracks f m.laid.sizes m.stands

  abbrev Fits : ℤ → Type 0
  Fits = FitsInside kit wire f

  write_low : pos (kit.height Inv) ≤ℤ f.write_y
  write_low = low (kit.height Inv) f.write_y wire.space (pos tracks.main *ℤ pitch wire) m.stands.write_y m.laid.sizes.space.from (times_low tracks.main (pitch wire) (pitch_low wire m.laid.sizes)) where
    low : (h : ℕ) (y s t : ℤ) → y ≡ pos h +ℤ (s +ℤ t) → pos 1 ≤ℤ s → pos 0 ≤ℤ t → pos h ≤ℤ y
    low h y s t e a b = omega (arith, ints, e, a, b)

  -- a bar along the upper or the lower rail of a cell that stands in the macro
  cell_fits : (role : Role) (y : ℤ) → pos 0 ≤ℤ y → (y +ℤ pos (kit.height role)) ≤ℤ upper_y kit f → Fits y × Fits ((y +ℤ pos (kit.height role)) -ℤ wire.width)
  cell_fits role y low high = (
    record { low = low; high = first y wire.width (kit.height role) (upper_y kit f) high (m.pins.cells role) },
    record { low = last y wire.width (kit.height role) low (m.pins.cells role); high = top (y +ℤ pos (kit.height role)) wire.width (upper_y kit f) high },
  ) where
    first : (y w : ℤ) (h : ℕ) (u : ℤ) → (y +ℤ pos h) ≤ℤ u → w ≤ℤ pos h → (y +ℤ w) ≤ℤ u
    first y w h u a b = omega (arith, ints, a, b)

    last : (y w : ℤ) (h : ℕ) → pos 0 ≤ℤ y → w ≤ℤ pos h → pos 0 ≤ℤ ((y +ℤ pos h) -ℤ w)
    last y w h a b = omega (arith, ints, a, b)

    top : (y w u : ℤ) → y ≤ℤ u → ((y -ℤ w) +ℤ w) ≤ℤ u
    top y w u a = omega (arith, ints, a)

  same_fits : (y z : ℤ) → y ≡ z → Fits z → Fits y
  same_fits y z e fits = subst Fits (sym e) fits

  -- cells stand between the macro's lower and upper edges
  sense_fits : (pos 0 ≤ℤ f.sense_y) × ((f.sense_y +ℤ pos (kit.height Sense)) ≤ℤ upper_y kit f)
  sense_fits = go (kit.height Inv) f.write_y f.sense_y (column_channel_y kit f) f.column_y f.array_y f.precharge_y (kit.height Precharge) wire.space write_low l.sense l.column l.array l.precharge m.laid.sizes.space.from where
    go : (lh : ℕ) (wy sy cy oy ay py : ℤ) (ph : ℕ) (sp : ℤ) → pos lh ≤ℤ wy → wy ≤ℤ sy → (cy +ℤ sp) ≤ℤ oy → oy ≤ℤ ay → ay ≤ℤ py → pos 1 ≤ℤ sp → (pos 0 ≤ℤ sy) × (cy ≤ℤ (py +ℤ pos ph))
    go lh wy sy cy oy ay py ph sp a b d e g one = (omega (arith, ints, a, b), omega (arith, ints, d, e, g, one))

  sense_at : Fits f.sense_y × Fits (column_channel_y kit f -ℤ wire.width)
  sense_at = cell_fits Sense f.sense_y sense_fits.0 sense_fits.1

  column_fits : (pos 0 ≤ℤ f.column_y) × ((f.column_y +ℤ pos (kit.height (column_role plan.col_bits))) ≤ℤ upper_y kit f)
  column_fits = go f.sense_y (kit.height Sense) (column_channel_y kit f) f.column_y f.array_y f.precharge_y (kit.height Precharge) (kit.height (column_role plan.col_bits)) wire.space sense_fits.0 refl l.column l.precharge m.stands.array_y m.laid.sizes.space.from where
    go : (sy : ℤ) (sh : ℕ) (cy oy ay py : ℤ) (ph oh : ℕ) (sp : ℤ) → pos 0 ≤ℤ sy → cy ≡ sy +ℤ pos sh → (cy +ℤ sp) ≤ℤ oy → ay ≤ℤ py → ay ≡ oy +ℤ pos oh → pos 1 ≤ℤ sp → (pos 0 ≤ℤ oy) × ((oy +ℤ pos oh) ≤ℤ (py +ℤ pos ph))
    go sy sh cy oy ay py ph oh sp a ec d g ea one = (omega (arith, ints, a, ec, d, one), omega (arith, ints, g, ea))

  column_at : Fits f.column_y × Fits ((f.column_y +ℤ pos (kit.height (column_role plan.col_bits))) -ℤ wire.width)
  column_at = cell_fits (column_role plan.col_bits) f.column_y column_fits.0 column_fits.1

  precharge_low : (pos 0 ≤ℤ f.array_y) × (pos 0 ≤ℤ f.precharge_y)
  precharge_low = go f.column_y f.array_y f.precharge_y column_fits.0 l.array l.precharge where
    go : (o a p : ℤ) → pos 0 ≤ℤ o → o ≤ℤ a → a ≤ℤ p → (pos 0 ≤ℤ a) × (pos 0 ≤ℤ p)
    go o a p x y z = (omega (arith, ints, x, y), omega (arith, ints, x, y, z))

  precharge_at : Fits f.precharge_y × Fits (upper_y kit f -ℤ wire.width)
  precharge_at = cell_fits Precharge f.precharge_y precharge_low.1 (same (upper_y kit f))

  logic_at : Fits (pos 0) × Fits (pos (kit.height Inv) -ℤ wire.width)
  logic_at =
      let c = cell_fits Inv (pos 0) (same (pos 0)) (go (kit.height Inv) f.write_y f.sense_y (kit.height Sense) (upper_y kit f) write_low l.sense sense_fits.1) in
      (c.0, same_fits (pos (kit.height Inv) -ℤ wire.width) ((pos 0 +ℤ pos (kit.height Inv)) -ℤ wire.width) (zero_left (kit.height Inv) wire.width) c.1)
    where
      go : (h : ℕ) (w s : ℤ) (sh : ℕ) (u : ℤ) → pos h ≤ℤ w → w ≤ℤ s → (s +ℤ pos sh) ≤ℤ u → (pos 0 +ℤ pos h) ≤ℤ u
      go h w s sh u a b c = omega (arith, ints, a, b, c)

      zero_left : (h : ℕ) (w : ℤ) → (pos h -ℤ w) ≡ ((pos 0 +ℤ pos h) -ℤ w)
      zero_left h w = omega (arith, ints)

  write_at : Fits f.write_y
  write_at = record { low = low (kit.height Inv) f.write_y write_low; high = high f.write_y wire.width f.sense_y (kit.height Sense) (upper_y kit f) l.sense sense_fits.1 (m.pins.cells Sense) } where
    low : (h : ℕ) (w : ℤ) → pos h ≤ℤ w → pos 0 ≤ℤ w
    low h w a = omega (arith, ints, a)

    high : (w width s : ℤ) (sh : ℕ) (u : ℤ) → w ≤ℤ s → (s +ℤ pos sh) ≤ℤ u → width ≤ℤ pos sh → (w +ℤ width) ≤ℤ u
    high w width s sh u b c d = omega (arith, ints, b, c, d)

  row_at : (r : ℕ) → r < bank_rows plan → Fits (row_y kit f r)
  row_at r lt = (cell_fits Bitcell (row_y kit f r) (low f.array_y (r * bit_height kit) precharge_low.0) (high f.array_y f.precharge_y r (bank_rows plan) (bit_height kit) (kit.height Precharge) (rows r (bank_rows plan) (bit_height kit) lt) m.stands.precharge_y)).0 where
    low : (a : ℤ) (n : ℕ) → pos 0 ≤ℤ a → pos 0 ≤ℤ (a +ℤ pos n)
    low a n le = omega (arith, ints, le)

    rows : (r n h : ℕ) → r < n → r * h + h ≤ n * h
    rows r n h lt = let le = mul-le-mul_right h (step r n lt) in let one : (r + 1) * h ≡ r * h + h = grind arith in subst (λ (k : ℕ). k ≤ n * h) one le where
      step : (r n : ℕ) → r < n → r + 1 ≤ n
      step r n lt = omega (arith, lt)

    high : (a p : ℤ) (r n h ph : ℕ) → r * h + h ≤ n * h → p ≡ a +ℤ pos (n * h) → ((a +ℤ pos (r * h)) +ℤ pos h) ≤ℤ (p +ℤ pos ph)
    high a p r n h ph le e = go a p (r * h) (n * h) h ph le e where
      go : (a p : ℤ) (x y h ph : ℕ) → x + h ≤ y → p ≡ a +ℤ pos y → ((a +ℤ pos x) +ℤ pos h) ≤ℤ (p +ℤ pos ph)
      go a p x y h ph le e = omega (arith, ints, le, e)

  pub power_fits : (x y : ℤ) → IsPowerBarAt plan kit wire f x y → Fits y
  power_fits x y (inl at) = same_fits y (pos (kit.height Inv) -ℤ wire.width) at.1 logic_at.1
  power_fits x y (inr (inl at)) = same_fits y f.write_y at.2 write_at
  power_fits x y (inr (inr (inl at))) = same_fits y (column_channel_y kit f -ℤ wire.width) at.1 sense_at.1
  power_fits x y (inr (inr (inr (inl at)))) = same_fits y f.column_y at.1 column_at.0
  power_fits x y (inr (inr (inr (inr (inl (r, lt, odd, e, at)))))) = same_fits y (row_y kit f r) at (row_at r lt)
  power_fits x y (inr (inr (inr (inr (inr at))))) = same_fits y (upper_y kit f -ℤ wire.width) at.1 precharge_at.1

  pub ground_fits : (x y : ℤ) → IsGroundBarAt plan kit f x y → Fits y
  ground_fits x y (inl at) = same_fits y (pos 0) at.1 logic_at.0
  ground_fits x y (inr (inl at)) = same_fits y f.sense_y at.1 sense_at.0
  ground_fits x y (inr (inr (inl (r, lt, even, e, at)))) = same_fits y (row_y kit f r) at (row_at r lt)
  ground_fits x y (inr (inr (inr at))) = same_fits y f.precharge_y at.1 precharge_at.0
