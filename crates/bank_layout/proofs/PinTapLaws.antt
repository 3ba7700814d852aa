-- Taps of pins: where they lie in the bank and in the macro.
use Rattle.std.proofs.Common.{◌≡◌, ◌⊎◌, inl, inr, ℕ, zero, suc, ◌<◌, ℤ, pos, ◌+ℤ◌, ◌-ℤ◌, ◌<ℤ◌, List, [], ◌∷◌, length, Some, Bool, true, false, cond, refl, sym, subst, ◌∙◌, arith}
use Rattle.std.specs.Prelude.{slice_get, codes}
use Rattle.std.specs.Int.{int_max, int_min}
use Rattle.std.proofs.lemmas.Int.{ints, clamps}
use Rattle.std.proofs.lemmas.Option.{slice_get-get_or}
use Rattle.or_geom.specs.declared.shape.Rect.{Rect}
use Rattle.or_geom.specs.declared.place.Place.{Place}
use Rattle.or_geom.specs.Place.{placed, IsImage}
use Rattle.cell_roles.specs.declared.role.Role.{Role}
use Rattle.cell_roles.specs.declared.role.Role.TheVariants.{Driver, Sense, Precharge}
use Rattle.cell_roles.specs.Roles.{role_ports}
use Rattle.tech_rules.specs.declared.tech.Wire.{Wire}
use Rattle.leaf_shapes.specs.declared.demand.Metal.TheVariants.{M3}
use Rattle.leaf_shapes.specs.declared.pins.LeafPin.{LeafPin}
use Rattle.leaf_shapes.specs.Demands.{role_demands}
use Rattle.leaf_tables.specs.declared.kit.Kit.{Kit}
use Rattle.leaf_tables.specs.Kits.{IsKit}
use Rattle.sram_netlist.specs.Organization.{Organization}
use Rattle.sram_netlist.specs.Nets.{Net}
use Rattle.sram_netlist.specs.Instances.{LeafInstance}
use Rattle.sram_netlist.specs.Netlist.{role, row_gate, ports}
use Rattle.sram_netlist.specs.Membership.{HasLeafInstance}
use Rattle.macro_layout.specs.LayoutKit.{LayoutKit}
use Rattle.macro_layout.specs.Places.{Floorplan, IsPlaceOf, upright, mirrored_at}
use Rattle.macro_layout.specs.Wires.{IsPinTap}
use Rattle.floorplan.specs.LayoutOfKit.{layout_kit}
use Rattle.row_decoder.specs.RowTaps.{lower_end, right_end}
use Rattle.bank_layout.specs.BankTaps.{IsLeafPin}
use Rattle.bank_layout.proofs.PinLaws.{IsFirstOf, kit_pin}
use Rattle.bank_layout.proofs.GivenLaws.{wire_of_kit}

-- a rectangle as it lies when it is placed
pub record IsPlaced (place : Place) (p : Rect) : Type 0 where
  pub rect : Rect
  pub image : IsImage (placed place) p rect

least : (a b : ℤ) → a <ℤ b → a ≡ int_min a b
least a b lt = omega (arith, ints, clamps, lt)

most : (a b : ℤ) → a <ℤ b → b ≡ int_max a b
most a b lt = omega (arith, ints, clamps, lt)

least_turned : (a b : ℤ) → b <ℤ a → b ≡ int_min a b
least_turned a b lt = omega (arith, ints, clamps, lt)

most_turned : (a b : ℤ) → b <ℤ a → a ≡ int_max a b
most_turned a b lt = omega (arith, ints, clamps, lt)

moved : (a b d : ℤ) → a <ℤ b → (a +ℤ d) <ℤ (b +ℤ d)
moved a b d lt = omega (arith, ints, lt)

turned_up : (a b d : ℤ) → a <ℤ b → ((pos 0 -ℤ b) +ℤ d) <ℤ ((pos 0 -ℤ a) +ℤ d)
turned_up a b d lt = omega (arith, ints, lt)

pub placed_upright : (x y : ℤ) (p : Rect) → IsPlaced (upright x y) p
placed_upright x y p =
    let wide = moved p.x1 p.x2 x p.wide in
    let tall = moved p.y1 p.y2 y p.tall in
    record {
      rect = record { x1 = p.x1 +ℤ x; y1 = p.y1 +ℤ y; x2 = p.x2 +ℤ x; y2 = p.y2 +ℤ y; wide = wide; tall = tall };
      image = record { x1 = least _ _ wide; y1 = least _ _ tall; x2 = most _ _ wide; y2 = most _ _ tall };
    }

pub placed_in_row : (t : Bool) (x u v : ℤ) (p : Rect) → IsPlaced (cond t (upright x u) (mirrored_at x v)) p
placed_in_row true x u v p = placed_upright x u p
placed_in_row false x u v p =
    let wide = moved p.x1 p.x2 x p.wide in
    let tall = turned_up p.y1 p.y2 v p.tall in
    record {
      rect = record { x1 = p.x1 +ℤ x; y1 = (pos 0 -ℤ p.y2) +ℤ v; x2 = p.x2 +ℤ x; y2 = (pos 0 -ℤ p.y1) +ℤ v; wide = wide; tall = tall };
      image = record { x1 = least _ _ wide; y1 = least_turned _ _ tall; x2 = most _ _ wide; y2 = most_turned _ _ tall };
    }

min_down : (a b u w v : ℤ) → v ≡ u -ℤ w → int_min (a +ℤ v) (b +ℤ v) ≡ int_min (a +ℤ u) (b +ℤ u) -ℤ w
min_down a b u w v e = omega (arith, ints, clamps, e)

-- the same cell further down
pub lower_down : (t : Bool) (x u v w c d : ℤ) (p : Rect) → c ≡ u -ℤ w → d ≡ v -ℤ w → lower_end (cond t (upright x c) (mirrored_at x d)) p ≡ lower_end (cond t (upright x u) (mirrored_at x v)) p -ℤ w
lower_down true x u v w c d p e f = min_down p.y1 p.y2 u w c e
lower_down false x u v w c d p e f = min_down (pos 0 -ℤ p.y1) (pos 0 -ℤ p.y2) v w d f

pub right_same : (t : Bool) (x u v c d : ℤ) (p : Rect) → right_end (cond t (upright x c) (mirrored_at x d)) p ≡ right_end (cond t (upright x u) (mirrored_at x v)) p
right_same true x u v c d p = refl
right_same false x u v c d p = refl

-- a pin of a leaf instance that is as its kit's pin, and its tap
pub tap_of_pin : (plan : Organization) (kit : LayoutKit) (fl : Floorplan) (leaf : LeafInstance) (net : Net) (port : ℕ) (place : Place) (p : Rect) → HasLeafInstance plan leaf → slice_get (ports plan leaf) port ≡ Some net → IsPlaceOf plan kit fl leaf place
    → kit.pin (role plan leaf) port 2 ≡ p → IsPlaced place p → IsPinTap plan kit fl leaf net (lower_end place p) (right_end place p)
tap_of_pin plan kit fl leaf net port place p has on stands is at = record {
  port = port;
  rect = at.rect;
  pin = record { has = has; on = on; place = place; stands = stands; image = subst (λ (r : Rect). IsImage (placed place) r at.rect) (sym is) at.image };
  at = sym at.image.y1;
  ends = sym at.image.x2;
}

-- where a tap lies whose pin is this one
pub record IsTapOfPin (place : Place) (p : Rect) (y end : ℤ) : Type 0 where
  pub low : y ≡ lower_end place p
  pub ends : end ≡ right_end place p

pub pin_of_tap : (plan : Organization) (kit : LayoutKit) (fl : Floorplan) (leaf : LeafInstance) (net : Net) (y end : ℤ) (t : IsPinTap plan kit fl leaf net y end) (place : Place) (p : Rect) → t.pin.place ≡ place → kit.pin (role plan leaf) t.port 2 ≡ p → IsTapOfPin place p y end
pin_of_tap plan kit fl leaf net y end t place p stands is =
    let image : IsImage (placed place) p t.rect = subst (λ (q : Place). IsImage (placed q) p t.rect) stands (subst (λ (r : Rect). IsImage (placed t.pin.place) r t.rect) is t.pin.image) in
    record { low = t.at ∙ image.y1; ends = t.ends ∙ image.x2 }

-- the kit's pins on the third metal
third : (kit : Kit) (wire : Wire) (role : Role) (port place : ℕ) (name : List ℕ) (pin : LeafPin) → IsKit kit → kit.tech.wire ≡ Some wire → slice_get (role_ports role) port ≡ Some name → IsFirstOf (role_demands role) place name M3 → IsLeafPin kit.leaves role place pin → (layout_kit kit).pin role port 2 ≡ pin.rect
third kit wire role port place name pin is wired named first p =
    let four = (wire_of_kit kit wire is wired).four in
    kit_pin kit wire role port 2 place name M3 pin is wired named (slice_get-get_or wire.metals 2 0 (omega (arith, four))) first p

pub record IsGatePort (groups : List ℕ) (g : ℕ) : Type 0 where
  pub name : List ℕ
  pub named : slice_get (role_ports (row_gate groups)) g ≡ Some name
  pub first : IsFirstOf (role_demands (row_gate groups)) g name M3

gate_port : (groups : List ℕ) (g : ℕ) → (length groups ≡ 2) ⊎ (length groups ≡ 3) → g < length groups → IsGatePort groups g
gate_port [] g n lt = absurd (omega (arith, lt))
gate_port (a ∷ []) g n lt = absurd (elim n [ inl e ↦ omega (arith, e) | inr e ↦ omega (arith, e) ])
gate_port (a ∷ b ∷ []) zero n lt = record { name = codes "a"; named = refl; first = (refl, refl) }
gate_port (a ∷ b ∷ []) (suc zero) n lt = record { name = codes "b"; named = refl; first = (refl, (refl, refl)) }
gate_port (a ∷ b ∷ []) (suc (suc g)) n lt = absurd (omega (arith, lt))
gate_port (a ∷ b ∷ c ∷ bs) zero n lt = record { name = codes "a"; named = refl; first = (refl, refl) }
gate_port (a ∷ b ∷ c ∷ bs) (suc zero) n lt = record { name = codes "b"; named = refl; first = (refl, (refl, refl)) }
gate_port (a ∷ b ∷ c ∷ bs) (suc (suc zero)) n lt = record { name = codes "c"; named = refl; first = (refl, (refl, (refl, refl))) }
gate_port (a ∷ b ∷ c ∷ bs) (suc (suc (suc g))) n lt = absurd (elim n [ inl e ↦ omega (arith, e) | inr e ↦ omega (arith, e, lt) ])

pub gate_input : (kit : Kit) (wire : Wire) (groups : List ℕ) (g : ℕ) (pin : LeafPin) → IsKit kit → kit.tech.wire ≡ Some wire → (length groups ≡ 2) ⊎ (length groups ≡ 3) → g < length groups → IsLeafPin kit.leaves (row_gate groups) g pin → (layout_kit kit).pin (row_gate groups) g 2 ≡ pin.rect
gate_input kit wire groups g pin is wired n lt p = let port = gate_port groups g n lt in third kit wire (row_gate groups) g g port.name pin is wired port.named port.first p

pub driver_enable : (kit : Kit) (wire : Wire) (pin : LeafPin) → IsKit kit → kit.tech.wire ≡ Some wire → IsLeafPin kit.leaves Driver 1 pin → (layout_kit kit).pin Driver 1 2 ≡ pin.rect
driver_enable kit wire pin is wired p = third kit wire Driver 1 1 (codes "en") pin is wired refl (refl, (refl, refl)) p

pub sense_enable : (kit : Kit) (wire : Wire) (pin : LeafPin) → IsKit kit → kit.tech.wire ≡ Some wire → IsLeafPin kit.leaves Sense 3 pin → (layout_kit kit).pin Sense 3 2 ≡ pin.rect
sense_enable kit wire pin is wired p = third kit wire Sense 3 3 (codes "en") pin is wired refl (refl, (refl, (refl, (refl, refl)))) p

pub precharge_enable : (kit : Kit) (wire : Wire) (pin : LeafPin) → IsKit kit → kit.tech.wire ≡ Some wire → IsLeafPin kit.leaves Precharge 2 pin → (layout_kit kit).pin Precharge 2 2 ≡ pin.rect
precharge_enable kit wire pin is wired p = third kit wire Precharge 2 2 (codes "en_bar") pin is wired refl (refl, (refl, (refl, refl))) p
