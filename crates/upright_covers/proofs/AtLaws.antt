-- A box at a leaf instance's zone, and what moves with the instances near it.
use Rattle.std.proofs.Common.{inl, inr, ℕ, ℤ, pos, ◌+ℤ◌, ◌-ℤ◌, ◌*ℤ◌, ◌≤ℤ◌, ◌<ℤ◌, refl, sym, subst, arith}
use Rattle.std.specs.Int.{int_max}
use Rattle.std.proofs.lemmas.Int.{ints, clamps}
use Rattle.or_geom.specs.declared.shape.Rect.{Rect}
use Rattle.or_geom.specs.Covered.{HasCell}
use Rattle.or_geom.specs.Place.{placed, IsImage}
use Rattle.cell_roles.specs.declared.role.Role.{Role}
use Rattle.tech_rules.specs.declared.tech.Wire.{Wire}
use Rattle.sram_netlist.specs.Organization.{Organization, banks_of}
use Rattle.sram_netlist.specs.Instances.{LeafInstance}
use Rattle.sram_netlist.specs.Netlist.{role}
use Rattle.sram_netlist.specs.BitCells.{BitCells}
use Rattle.macro_layout.specs.LayoutKit.{LayoutKit}
use Rattle.macro_layout.specs.Places.{Floorplan, leaf_cell}
use Rattle.macro_layout.specs.Floorplan.{Tracks}
use Rattle.macro_layout.specs.Wires.{trunk_x}
use Rattle.local_report.specs.Moved.{IsMovedBy}
use Rattle.good_places.specs.Leaves.{Zone, zone_of, LiesNear, AreNearZones}
use Rattle.good_places.specs.Beside.{moved_place, StandsMoved}
use Rattle.good_places.proofs.MoveLaws.{moved_image}
use Rattle.good_places.proofs.LaidLaws.{in_zone}
use Rattle.good_wires.specs.Drawn.{IsDrawnMemory}
use Rattle.good_wires.specs.Branches.{IsPlacedPin}
use Rattle.good_wires.proofs.TapLaws.{pin_passes}
use Rattle.good_wires.proofs.ClearLaws.{ZoneKind, IsBankZone, banks_left}

-- The box shares area with the zone, grown by the space, and passes it, and another zone near it, by so much at most, and no more than
-- may be felt.
pub record IsBoxAt (wire : Wire) (reach : ℤ) (z near : Zone) (d : ℤ) (box : Rect) : Type 0 where
  pub lies : LiesNear d near box
  pub stands : LiesNear d z box
  pub zones : AreNearZones reach z near
  pub felt : d ≤ℤ reach
  pub left : z.left <ℤ (box.x2 +ℤ wire.space)
  pub right : box.x1 <ℤ (z.right +ℤ wire.space)
  pub low : z.low <ℤ (box.y2 +ℤ wire.space)
  pub high : box.y1 <ℤ (z.high +ℤ wire.space)

-- where the box has a cell a space over a line that the zone ends at or below, it has one in the space's last row of cells
pub cell_over : (wire : Wire) (reach : ℤ) (z near : Zone) (d : ℤ) (box : Rect) → IsBoxAt wire reach z near d box → (line x y : ℤ) → HasCell box x y → z.high ≤ℤ line → (line +ℤ wire.space) ≤ℤ y → HasCell box x ((line +ℤ wire.space) -ℤ pos 1)
cell_over wire reach z near d box at line x y inside top over = record {
  left = inside.left;
  right = inside.right;
  low = let p = at.high in omega (arith, ints, p, top);
  high = let p = inside.high in omega (arith, ints, p, over);
}

-- and where it has one more than a space below a line that the zone begins at or over, it has one in the space's first row
pub cell_under : (wire : Wire) (reach : ℤ) (z near : Zone) (d : ℤ) (box : Rect) → IsBoxAt wire reach z near d box → (line x y : ℤ) → HasCell box x y → line ≤ℤ z.low → (y +ℤ wire.space) <ℤ line → HasCell box x (line -ℤ wire.space)
cell_under wire reach z near d box at line x y inside foot under = record {
  left = inside.left;
  right = inside.right;
  low = let p = inside.low in omega (arith, ints, p, under);
  high = let p = at.low in omega (arith, ints, p, foot);
}

-- each zone ends a space before the trunks of the supplies
pub zone_before_trunk : (plan : Organization) (kit : LayoutKit) (wire : Wire) (tracks : Tracks) (f : Floorplan) (m : IsDrawnMemory plan kit wire tracks f) (z : Zone) → ZoneKind plan kit wire tracks f m z → (z.right +ℤ wire.space) ≤ℤ trunk_x plan kit wire f
zone_before_trunk plan kit wire tracks f m z kind = elim kind [
  | inl upper ↦ bank upper.0 upper.1
  | inr rest ↦ elim rest [
    | inl slices ↦ bank slices.0 slices.1
    | inr logic ↦ logic.2
  ]
] where
  go : (zr q nq all lx sp : ℤ) → zr ≤ℤ (q +ℤ nq) → (nq +ℤ q) ≤ℤ all → (zr +ℤ sp) ≤ℤ (int_max all lx +ℤ sp)
  go zr q nq all lx sp a b = omega (arith, ints, clamps, a, b)

  bank : (n : ℕ) → IsBankZone plan kit wire tracks f m n z → (z.right +ℤ wire.space) ≤ℤ trunk_x plan kit wire f
  bank n i = go z.right f.bank_width (pos n *ℤ f.bank_width) (pos (banks_of plan) *ℤ f.bank_width) _ wire.space i.right (banks_left plan kit wire tracks f m n (banks_of plan) i.below)

-- a placed pin lies in its instance's zone
pub placed_lies : (Met : Role → ℕ → Type 0) (metal : ℕ) (plan : Organization) (kit : LayoutKit) (wire : Wire) (tracks : Tracks) (f : Floorplan) (m : IsDrawnMemory plan kit wire tracks f) (leaf : LeafInstance) (rect : Rect) (p : IsPlacedPin Met metal plan kit f leaf rect)
    → LiesNear (pos 0) (zone_of plan kit f leaf p.place) rect
placed_lies Met metal plan kit wire tracks f m leaf rect p = in_zone plan kit wire f (pos 0) m.laid leaf p.place (record { layer = 0; rect = kit.pin (role plan leaf) p.port metal }) (record { layer = 0; rect = rect }) p.has p.stands (pin_passes kit wire plan leaf p.port metal m.pins) (record { layer = refl; image = p.image })

-- a placed pin, where its instance stands in another memory
pub placed_moves : (Met : Role → ℕ → Type 0) (metal : ℕ) (plan other : Organization) (kit : LayoutKit) (bits : BitCells) (f g : Floorplan) (dx dy : ℤ) (leaf : LeafInstance) (rect : Rect) (p : IsPlacedPin Met metal other kit g leaf rect)
    → (s : StandsMoved plan kit bits f dx dy (role other leaf) (leaf_cell other kit bits leaf) p.place) (r : Rect) → IsMovedBy dx dy rect r → IsPlacedPin Met metal plan kit f s.leaf r
placed_moves Met metal plan other kit bits f g dx dy leaf rect p s r at = record {
  port = p.port;
  met = subst (λ (q : Role). Met q p.port) (sym s.same_role) p.met;
  place = moved_place dx dy p.place;
  has = s.has;
  stands = s.stands;
  image = subst (λ (q : Role). IsImage (placed (moved_place dx dy p.place)) (kit.pin q p.port metal) r) (sym s.same_role) (moved_image dx dy p.place (kit.pin (role other leaf) p.port metal) rect r p.image at);
}
