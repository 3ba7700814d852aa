-- The pins of a kit's leaf cells: where they lie, and that a layout finds them.
use Rattle.std.proofs.Common.{◌≡◌, inl, ℕ, zero, suc, pos, ◌≤ℤ◌, List, [], ◌∷◌, length, Some, Option, option_map, option_and_then, find, Bool, true, false, cond, refl, ap, sym, subst, ◌∙◌, arith}
use Rattle.std.specs.Prelude.{slice_get, Contains, ◌==◌}
use Rattle.std.specs.Str.{bytes_eq}
use Rattle.std.proofs.lemmas.Int.{ints}
use Rattle.std.proofs.lemmas.Option.{same_Some, slice_get_within}
use Rattle.or_geom.specs.declared.shape.Rect.{Rect}
use Rattle.or_geom.specs.declared.shape.Shape.{Shape}
use Rattle.cell_roles.specs.declared.role.Role.{Role}
use Rattle.cell_roles.specs.declared.leaf_role.LeafRole.TheVariants.{Common}
use Rattle.cell_roles.specs.Roles.{role_ports}
use Rattle.tech_rules.specs.declared.tech.Wire.{Wire}
use Rattle.leaf_shapes.specs.declared.demand.Metal.{Metal}
use Rattle.leaf_shapes.specs.declared.pins.LeafPin.{LeafPin}
use Rattle.leaf_shapes.specs.Demands.{PinDemand, metal_layer, role_demands}
use Rattle.leaf_shapes.specs.Outline.{IsWireLayer}
use Rattle.leaf_shapes.proofs.PinLaws.{exists_at}
use Rattle.leaf_tables.specs.declared.kit.Kit.{Kit}
use Rattle.leaf_tables.specs.declared.kit.Leaf.{Leaf}
use Rattle.leaf_tables.specs.Alignment.{leaf_in}
use Rattle.leaf_tables.specs.Kits.{IsKit, source_of}
use Rattle.leaf_tables.specs.Leaves.{LeafSource, IsLeaf}
use Rattle.leaf_tables.proofs.RoleLaws.{metal_listed, in_kit}
use Rattle.sram_netlist.proofs.ChoiceLaws.{nat_same}
use Rattle.floorplan.specs.LayoutOfKit.{layout_kit, pin_on, pin_rect, layer_of_metal, shape_or_square}
use Rattle.floorplan.proofs.DemandLaws.{wire_there}
use Rattle.bank_layout.specs.BankTaps.{IsInCell, IsLeafPin}

-- the rectangle lies in the cell
pub record IsInsideLeaf (leaf : Leaf) (r : Rect) : Type 0 where
  pub left : pos 0 ≤ℤ r.x1
  pub low : pos 0 ≤ℤ r.y1
  pub right : r.x2 ≤ℤ leaf.width
  pub high : r.y2 ≤ℤ leaf.height
  pub narrow : leaf.width ≤ℤ pos 65536
  pub flat : leaf.height ≤ℤ pos 65536

inside_pin : (source : LeafSource) (role : Role) (leaf : Leaf) → length source.wire.metals ≡ 4 → IsLeaf source (Common role) leaf → (k : ℕ) (pin : LeafPin) → slice_get leaf.pins k ≡ Some pin → IsInsideLeaf leaf pin.rect
inside_pin source role leaf four is k pin there =
    let sized = is.pins.sized in
    let within = slice_get_within leaf.pins k pin there in
    let demand = exists_at (role_demands role) k (omega (arith, sized, within)) in
    let drawn = is.pins.each k demand.0 pin demand.1 there in
    let shape : Shape = record { layer = pin.layer; rect = pin.rect } in
    let outline = is.sized.outline in
    let layer : IsWireLayer source.wire pin.layer = inl (subst (Contains source.wire.metals) (sym drawn.is.has.0) (metal_listed source.wire demand.0.metal four)) in
    let inside = outline.inside shape drawn.is.bound.binds.listed layer in
    let left = inside.left in
    let right = inside.right in
    let low = inside.low in
    let high = inside.high in
    let x1 = outline.is.left in
    let y1 = outline.is.low in
    let x2 = outline.is.right in
    let y2 = outline.is.high in
    record {
      left = omega (arith, ints, left, x1);
      low = omega (arith, ints, low, y1);
      right = omega (arith, ints, right, x2);
      high = omega (arith, ints, high, y2);
      narrow = outline.narrow;
      flat = outline.low;
    }

pub inside_leaf : (kit : Kit) (role : Role) (leaf : Leaf) (k : ℕ) (pin : LeafPin) → IsKit kit → leaf_in kit.leaves role ≡ Some leaf → slice_get leaf.pins k ≡ Some pin → IsInsideLeaf leaf pin.rect
inside_leaf kit role leaf k pin is there at = inside_pin (source_of kit is.wire) role leaf (wire_there kit is).four (in_kit kit role leaf is there) k pin at

-- the demand at the place is on this metal, and the first of this name
abbrev pub IsFirstOf : List PinDemand → ℕ → List ℕ → Metal → Type 0
IsFirstOf [] k name metal = ⊥
IsFirstOf (d ∷ ds) zero name metal = (bytes_eq d.pin name ≡ true) × (d.metal ≡ metal)
IsFirstOf (d ∷ ds) (suc k) name metal = (bytes_eq d.pin name ≡ false) × IsFirstOf ds k name metal

-- pins that are named and on layers as is demanded
abbrev AreNamed : Wire → List PinDemand → List LeafPin → Type 0
AreNamed wire ds pins = (k : ℕ) (d : PinDemand) (pin : LeafPin) → slice_get ds k ≡ Some d → slice_get pins k ≡ Some pin → (pin.pin ≡ d.pin) × (pin.layer ≡ metal_layer wire d.metal)

abbrev is_wanted : List ℕ → ℕ → LeafPin → Bool
is_wanted name layer pin = cond (bytes_eq pin.pin name) (pin.layer == layer) false

found_at : (wire : Wire) (ds : List PinDemand) (pins : List LeafPin) (k : ℕ) (name : List ℕ) (metal : Metal) (pin : LeafPin) → AreNamed wire ds pins → IsFirstOf ds k name metal → slice_get pins k ≡ Some pin → find (is_wanted name (metal_layer wire metal)) pins ≡ Some pin
found_at wire [] pins k name metal pin named first at = absurd first
found_at wire (d ∷ ds) [] k name metal pin named first at = absurd (none_at k at) where
  none_at : (k : ℕ) → slice_get [] k ≡ Some pin → ⊥
  none_at k e = absurd (omega (arith, slice_get_within [] k pin e))
found_at wire (d ∷ ds) (p ∷ ps) zero name metal pin named first at =
    let is = named 0 d p refl refl in
    let test : is_wanted name (metal_layer wire metal) p ≡ true =
    ap (λ (n : List ℕ). cond (bytes_eq n name) (p.layer == metal_layer wire metal) false) is.0
    ∙ (ap (λ (t : Bool). cond t (p.layer == metal_layer wire metal) false) first.0
    ∙ (ap (λ (l : ℕ). l == metal_layer wire metal) (is.1 ∙ ap (metal_layer wire) first.1) ∙ nat_same (metal_layer wire metal))) in
    ap (λ (t : Bool). cond t (Some p) (find (is_wanted name (metal_layer wire metal)) ps)) test ∙ at
found_at wire (d ∷ ds) (p ∷ ps) (suc k) name metal pin named first at =
    let is = named 0 d p refl refl in
    let test : is_wanted name (metal_layer wire metal) p ≡ false =
    ap (λ (n : List ℕ). cond (bytes_eq n name) (p.layer == metal_layer wire metal) false) is.0
    ∙ ap (λ (t : Bool). cond t (p.layer == metal_layer wire metal) false) first.0 in
    ap (λ (t : Bool). cond t (Some p) (find (is_wanted name (metal_layer wire metal)) ps)) test
    ∙ found_at wire ds ps k name metal pin (λ j e q l r. named (suc j) e q l r) first.1 at

pub in_cell : (leaf : Leaf) (r : Rect) → IsInsideLeaf leaf r → IsInCell r
in_cell leaf r is =
    let right = is.right in
    let high = is.high in
    let narrow = is.narrow in
    let flat = is.flat in
    record { left = is.left; low = is.low; right = omega (arith, ints, right, narrow); high = omega (arith, ints, high, flat) }

named_in_kit : (kit : Kit) (wire : Wire) (role : Role) (leaf : Leaf) → IsKit kit → kit.tech.wire ≡ Some wire → leaf_in kit.leaves role ≡ Some leaf → AreNamed wire (role_demands role) leaf.pins
named_in_kit kit wire role leaf is wired there k d pin at_d at_pin =
    let drawn = (in_kit kit role leaf is there).pins.each k d pin at_d at_pin in
    let same : is.wire ≡ wire = same_Some is.wire wire (sym is.wired ∙ wired) in
    (drawn.named, drawn.is.has.0 ∙ ap (λ (w : Wire). metal_layer w d.metal) same)

-- what a layout takes for the role's port on a metal is the pin at this place
pub kit_pin : (kit : Kit) (wire : Wire) (role : Role) (port number place : ℕ) (name : List ℕ) (metal : Metal) (pin : LeafPin) → IsKit kit → kit.tech.wire ≡ Some wire → slice_get (role_ports role) port ≡ Some name
    → slice_get wire.metals number ≡ Some (metal_layer wire metal) → IsFirstOf (role_demands role) place name metal → IsLeafPin kit.leaves role place pin → (layout_kit kit).pin role port number ≡ pin.rect
kit_pin kit wire role port number place name metal pin is wired named on first p =
    let layer = metal_layer wire metal in
    let found : pin_on p.leaf.pins name layer ≡ Some pin = found_at wire (role_demands role) p.leaf.pins place name metal pin (named_in_kit kit wire role p.leaf is wired p.there) first p.at in
    let shaped : pin_rect (leaf_in kit.leaves role) name layer ≡ Some pin.rect =
    ap (λ (l : Option Leaf). pin_rect l name layer) p.there ∙ ap (option_map (λ (q : LeafPin). q.rect)) found in
    let layered : layer_of_metal kit.tech.wire number ≡ Some layer = ap (λ (w : Option Wire). layer_of_metal w number) wired ∙ on in
    ap shape_or_square
    (ap (λ (n : Option (List ℕ)). option_and_then (λ (text : List ℕ). option_and_then (pin_rect (leaf_in kit.leaves role) text) (layer_of_metal kit.tech.wire number)) n) named
    ∙ (ap (option_and_then (pin_rect (leaf_in kit.leaves role) name)) layered ∙ shaped))
