-- The wires of the supplies, put together.
use Rattle.std.proofs.Common.{◌≡◌, ◌⊎◌, inl, inr, ℕ, ◌*◌, ◌<◌, ◌≤◌, ℤ, pos, ◌+ℤ◌, ◌-ℤ◌, ◌<ℤ◌, ◌≤ℤ◌, w64, to_z, of_z, List, refl, subst, arith}
use Rattle.std.proofs.lemmas.Int.{ints}
use Rattle.toml_keys.specs.Keys.{IsInRange}
use Rattle.wire_drawing.specs.Drawing.{LeavesRoom}
use Rattle.floorplan.specs.FloorplanNumbers.{IsUpTo, IsFloorplanLength}
use Rattle.or_geom.specs.declared.shape.Shape.{Shape}
use Rattle.or_geom.specs.Adds.{Adds}
use Rattle.or_geom.proofs.AddsLaws.{adds_both, adds_as}
use Rattle.cell_roles.specs.declared.role.Role.TheVariants.{Inv}
use Rattle.tech_rules.specs.declared.tech.Wire.{Wire}
use Rattle.sram_netlist.specs.Organization.{Organization, IsWritten, bank_rows}
use Rattle.macro_layout.specs.LayoutKit.{LayoutKit}
use Rattle.macro_layout.specs.Places.{Floorplan, bit_height, columns_x}
use Rattle.macro_layout.specs.Floorplan.{column_channel_y, upper_y}
use Rattle.macro_layout.specs.Wires.{IsBar, IsSupplyTrunk, IsPowerBarAt, IsGroundBarAt, IsPowerWire, IsGroundWire, trunk_x, ground_x}
use Rattle.floorplan.specs.Bars.{IsRowBar}

moved : (wire : Wire) (t a b x y : ℤ) (s : Shape) → IsBar wire t a b s → a ≡ x → b ≡ y → IsBar wire t x y s
moved wire t a b x y s bar left low = subst (λ (z : ℤ). IsBar wire t x z s) low (subst (λ (z : ℤ). IsBar wire t z b s) left bar)

-- the trunk's bars, one after another
abbrev pub PowerBars : Organization → LayoutKit → Wire → Floorplan → ℤ → Shape → Type 0
PowerBars plan kit wire fl t s =
    IsBar wire t fl.logic_x (pos (kit.height Inv) -ℤ wire.width) s
    ⊎ ((IsWritten plan × IsBar wire t (columns_x plan kit fl) fl.write_y s)
    ⊎ (IsBar wire t (columns_x plan kit fl) (column_channel_y kit fl -ℤ wire.width) s
    ⊎ (IsBar wire t (columns_x plan kit fl) fl.column_y s
    ⊎ (IsRowBar wire t fl.row_x fl.array_y (bit_height kit) 1 (bank_rows plan) s
    ⊎ IsBar wire t (columns_x plan kit fl) (upper_y kit fl -ℤ wire.width) s))))

power_to : (plan : Organization) (kit : LayoutKit) (wire : Wire) (fl : Floorplan) (t : ℤ) (s : Shape) → PowerBars plan kit wire fl t s → (x : ℤ) × (y : ℤ) × IsPowerBarAt plan kit wire fl x y × IsBar wire t x y s
power_to plan kit wire fl t s (inl b) = (fl.logic_x, pos (kit.height Inv) -ℤ wire.width, inl (refl, refl), b)
power_to plan kit wire fl t s (inr (inl b)) = (columns_x plan kit fl, fl.write_y, inr (inl (b.0, refl, refl)), b.1)
power_to plan kit wire fl t s (inr (inr (inl b))) = (columns_x plan kit fl, column_channel_y kit fl -ℤ wire.width, inr (inr (inl (refl, refl))), b)
power_to plan kit wire fl t s (inr (inr (inr (inl b)))) = (columns_x plan kit fl, fl.column_y, inr (inr (inr (inl (refl, refl)))), b)
power_to plan kit wire fl t s (inr (inr (inr (inr (inl b))))) = (fl.row_x, fl.array_y +ℤ pos (b.0 * bit_height kit), inr (inr (inr (inr (inl (b.0, b.1, b.2.0, refl, refl))))), b.2.1)
power_to plan kit wire fl t s (inr (inr (inr (inr (inr b))))) = (columns_x plan kit fl, upper_y kit fl -ℤ wire.width, inr (inr (inr (inr (inr (refl, refl))))), b)

power_from : (plan : Organization) (kit : LayoutKit) (wire : Wire) (fl : Floorplan) (t x y : ℤ) (s : Shape) → IsPowerBarAt plan kit wire fl x y → IsBar wire t x y s → PowerBars plan kit wire fl t s
power_from plan kit wire fl t x y s (inl at) bar = inl (moved wire t x y _ _ s bar at.0 at.1)
power_from plan kit wire fl t x y s (inr (inl at)) bar = inr (inl (at.0, moved wire t x y _ _ s bar at.1 at.2))
power_from plan kit wire fl t x y s (inr (inr (inl at))) bar = inr (inr (inl (moved wire t x y _ _ s bar at.0 at.1)))
power_from plan kit wire fl t x y s (inr (inr (inr (inl at)))) bar = inr (inr (inr (inl (moved wire t x y _ _ s bar at.0 at.1))))
power_from plan kit wire fl t x y s (inr (inr (inr (inr (inl at))))) bar = inr (inr (inr (inr (inl (at.0, at.1, (at.2, moved wire t x y _ _ s bar at.3 at.4))))))
power_from plan kit wire fl t x y s (inr (inr (inr (inr (inr at))))) bar = inr (inr (inr (inr (inr (moved wire t x y _ _ s bar at.0 at.1)))))

pub power_all : (plan : Organization) (kit : LayoutKit) (wire : Wire) (fl : Floorplan) (t : ℤ) (old now new : List Shape) → t ≡ trunk_x plan kit wire fl → Adds old now (IsSupplyTrunk kit wire fl t) → Adds now new (PowerBars plan kit wire fl t) → Adds old new (IsPowerWire plan kit wire fl)
power_all plan kit wire fl t old now new at trunk bars =
    subst (λ (z : ℤ). Adds old new (λ s. IsSupplyTrunk kit wire fl z s ⊎ ((x : ℤ) × (y : ℤ) × IsPowerBarAt plan kit wire fl x y × IsBar wire z x y s))) at
    (adds_both old now new (IsSupplyTrunk kit wire fl t) (λ s. (x : ℤ) × (y : ℤ) × IsPowerBarAt plan kit wire fl x y × IsBar wire t x y s) trunk
    (adds_as now new (PowerBars plan kit wire fl t) (λ s. (x : ℤ) × (y : ℤ) × IsPowerBarAt plan kit wire fl x y × IsBar wire t x y s) (power_to plan kit wire fl t) (λ s is. power_from plan kit wire fl t is.0 is.1 s is.2 is.3) bars))

abbrev pub GroundBars : Organization → LayoutKit → Wire → Floorplan → ℤ → Shape → Type 0
GroundBars plan kit wire fl t s =
    IsBar wire t fl.logic_x (pos 0) s
    ⊎ (IsBar wire t (columns_x plan kit fl) fl.sense_y s
    ⊎ (IsRowBar wire t fl.row_x fl.array_y (bit_height kit) 0 (bank_rows plan) s
    ⊎ IsBar wire t fl.row_x fl.precharge_y s))

ground_to : (plan : Organization) (kit : LayoutKit) (wire : Wire) (fl : Floorplan) (t : ℤ) (s : Shape) → GroundBars plan kit wire fl t s → (x : ℤ) × (y : ℤ) × IsGroundBarAt plan kit fl x y × IsBar wire t x y s
ground_to plan kit wire fl t s (inl b) = (fl.logic_x, pos 0, inl (refl, refl), b)
ground_to plan kit wire fl t s (inr (inl b)) = (columns_x plan kit fl, fl.sense_y, inr (inl (refl, refl)), b)
ground_to plan kit wire fl t s (inr (inr (inl b))) = (fl.row_x, fl.array_y +ℤ pos (b.0 * bit_height kit), inr (inr (inl (b.0, b.1, b.2.0, refl, refl))), b.2.1)
ground_to plan kit wire fl t s (inr (inr (inr b))) = (fl.row_x, fl.precharge_y, inr (inr (inr (refl, refl))), b)

ground_from : (plan : Organization) (kit : LayoutKit) (wire : Wire) (fl : Floorplan) (t x y : ℤ) (s : Shape) → IsGroundBarAt plan kit fl x y → IsBar wire t x y s → GroundBars plan kit wire fl t s
ground_from plan kit wire fl t x y s (inl at) bar = inl (moved wire t x y _ _ s bar at.0 at.1)
ground_from plan kit wire fl t x y s (inr (inl at)) bar = inr (inl (moved wire t x y _ _ s bar at.0 at.1))
ground_from plan kit wire fl t x y s (inr (inr (inl at))) bar = inr (inr (inl (at.0, at.1, (at.2, moved wire t x y _ _ s bar at.3 at.4))))
ground_from plan kit wire fl t x y s (inr (inr (inr at))) bar = inr (inr (inr (moved wire t x y _ _ s bar at.0 at.1)))

pub ground_all : (plan : Organization) (kit : LayoutKit) (wire : Wire) (fl : Floorplan) (t : ℤ) (old now new : List Shape) → t ≡ ground_x plan kit wire fl → Adds old now (IsSupplyTrunk kit wire fl t) → Adds now new (GroundBars plan kit wire fl t) → Adds old new (IsGroundWire plan kit wire fl)
ground_all plan kit wire fl t old now new at trunk bars =
    subst (λ (z : ℤ). Adds old new (λ s. IsSupplyTrunk kit wire fl z s ⊎ ((x : ℤ) × (y : ℤ) × IsGroundBarAt plan kit fl x y × IsBar wire z x y s))) at
    (adds_both old now new (IsSupplyTrunk kit wire fl t) (λ s. (x : ℤ) × (y : ℤ) × IsGroundBarAt plan kit fl x y × IsBar wire t x y s) trunk
    (adds_as now new (GroundBars plan kit wire fl t) (λ s. (x : ℤ) × (y : ℤ) × IsGroundBarAt plan kit fl x y × IsBar wire t x y s) (ground_to plan kit wire fl t) (λ s is. ground_from plan kit wire fl t is.0 is.1 s is.2 is.3) bars))

pub power_bars : (plan : Organization) (kit : LayoutKit) (wire : Wire) (fl : Floorplan) (t : ℤ) (a b c d e f g : List Shape)
    → Adds a b (IsBar wire t fl.logic_x (pos (kit.height Inv) -ℤ wire.width))
    → Adds b c (λ s. IsWritten plan × IsBar wire t (columns_x plan kit fl) fl.write_y s)
    → Adds c d (IsBar wire t (columns_x plan kit fl) (column_channel_y kit fl -ℤ wire.width))
    → Adds d e (IsBar wire t (columns_x plan kit fl) fl.column_y)
    → Adds e f (IsRowBar wire t fl.row_x fl.array_y (bit_height kit) 1 (bank_rows plan))
    → Adds f g (IsBar wire t (columns_x plan kit fl) (upper_y kit fl -ℤ wire.width))
    → Adds a g (PowerBars plan kit wire fl t)
power_bars plan kit wire fl t a b c d e f g logic write sense ends rows precharge =
    adds_both a b g _ _ logic (adds_both b c g _ _ write (adds_both c d g _ _ sense (adds_both d e g _ _ ends (adds_both e f g _ _ rows precharge))))

pub ground_bars : (plan : Organization) (kit : LayoutKit) (wire : Wire) (fl : Floorplan) (t : ℤ) (a b c d e : List Shape)
    → Adds a b (IsBar wire t fl.logic_x (pos 0))
    → Adds b c (IsBar wire t (columns_x plan kit fl) fl.sense_y)
    → Adds c d (IsRowBar wire t fl.row_x fl.array_y (bit_height kit) 0 (bank_rows plan))
    → Adds d e (IsBar wire t fl.row_x fl.precharge_y)
    → Adds a e (GroundBars plan kit wire fl t)
ground_bars plan kit wire fl t a b c d e logic sense rows precharge =
    adds_both a b e _ _ logic (adds_both b c e _ _ sense (adds_both c d e _ _ rows precharge))

-- the same rows
pub rows_as : (wire : Wire) (a b c trunk x y : ℤ) (h height odd n rows : ℕ) (old now : List Shape) → Adds old now (IsRowBar wire a b c h odd n) → a ≡ trunk → b ≡ x → c ≡ y → h ≡ height → n ≡ rows → Adds old now (IsRowBar wire trunk x y height odd rows)
rows_as wire a b c trunk x y h height odd n rows old now adds behind left low high many =
    subst (λ (z : ℕ). Adds old now (IsRowBar wire trunk x y height odd z)) many
    (subst (λ (z : ℕ). Adds old now (IsRowBar wire trunk x y z odd n)) high
    (subst (λ (z : ℤ). Adds old now (IsRowBar wire trunk x z h odd n)) low
    (subst (λ (z : ℤ). Adds old now (IsRowBar wire trunk z c h odd n)) left
    (subst (λ (z : ℤ). Adds old now (IsRowBar wire z b c h odd n)) behind adds))))

-- where trunks and bars stand
pub room_trunk : {most : ℕ} (logic trunk : ℤ) → IsUpTo most logic → logic ≤ℤ trunk → trunk ≤ℤ pos 4398046511104 → LeavesRoom (to_z w64 (of_z w64 trunk))
room_trunk logic trunk placed behind near = record { above = omega (arith, ints, placed.above, behind, near); below = omega (arith, ints, placed.above, behind, near) }

pub room_placed : (z : ℤ) → IsFloorplanLength z → LeavesRoom (to_z w64 (of_z w64 z))
room_placed z placed = record { above = omega (arith, ints, placed.above, placed.below); below = omega (arith, ints, placed.above, placed.below) }

pub before_trunk : {most : ℕ} (z trunk w : ℤ) → IsUpTo most z → z ≤ℤ trunk → trunk ≤ℤ pos 4398046511104 → pos 1 ≤ℤ w → to_z w64 (of_z w64 z) <ℤ (to_z w64 (of_z w64 trunk) +ℤ w)
before_trunk z trunk w placed behind near some = omega (arith, ints, placed.above, behind, near, some)

pub rows_before : {most : ℕ} (row trunk w : ℤ) (far : ℕ) → IsUpTo most row → (row +ℤ pos far) ≤ℤ trunk → trunk ≤ℤ pos 4398046511104 → pos 1 ≤ℤ w → to_z w64 (of_z w64 row) <ℤ (to_z w64 (of_z w64 trunk) +ℤ w)
rows_before row trunk w far placed behind near some = omega (arith, ints, placed.above, behind, near, some)

pub columns_before : {most : ℕ} (z row trunk w : ℤ) (far : ℕ) → z ≡ row +ℤ pos far → IsUpTo most row → (row +ℤ pos far) ≤ℤ trunk → trunk ≤ℤ pos 4398046511104 → pos 1 ≤ℤ w → to_z w64 (of_z w64 z) <ℤ (to_z w64 (of_z w64 trunk) +ℤ w)
columns_before z row trunk w far is placed behind near some = omega (arith, ints, is, placed.above, behind, near, some)

pub upper_above : (z : ℤ) (n : ℕ) → IsFloorplanLength z → 0 < n → n ≤ 65536 → pos 0 <ℤ to_z w64 (of_z w64 (to_z w64 (of_z w64 z) +ℤ to_z w64 n))
upper_above z n placed some few = omega (arith, ints, placed.above, placed.below, some, few)

raised : (z : ℤ) (n : ℕ) → IsFloorplanLength z → n ≤ 65536 → to_z w64 (of_z w64 (to_z w64 (of_z w64 z) +ℤ to_z w64 n)) ≡ z +ℤ pos n
raised z n placed few = omega (arith, ints, placed.above, placed.below, few)

pub room_logic : (n : ℕ) (w : ℤ) → n ≤ 65536 → IsInRange (pos 1) (pos 65536) w → LeavesRoom (to_z w64 (of_z w64 (to_z w64 n -ℤ to_z w64 (of_z w64 w))))
room_logic n w few wide = record { above = omega (arith, ints, few, wide.from, wide.to); below = omega (arith, ints, few, wide.from, wide.to) }

under : (z w : ℤ) (n : ℕ) → IsFloorplanLength z → n ≤ 65536 → IsInRange (pos 1) (pos 65536) w → LeavesRoom (to_z w64 (of_z w64 ((z +ℤ pos n) -ℤ to_z w64 (of_z w64 w))))
under z w n placed few wide = record { above = omega (arith, ints, placed.above, placed.below, few, wide.from, wide.to); below = omega (arith, ints, placed.above, placed.below, few, wide.from, wide.to) }

pub room_under : (z w : ℤ) (n : ℕ) → IsFloorplanLength z → n ≤ 65536 → IsInRange (pos 1) (pos 65536) w → LeavesRoom (to_z w64 (of_z w64 (to_z w64 (of_z w64 (to_z w64 (of_z w64 z) +ℤ to_z w64 n)) -ℤ to_z w64 (of_z w64 w))))
room_under z w n placed few wide = rw (raised z n placed few) (under z w n placed few wide)
