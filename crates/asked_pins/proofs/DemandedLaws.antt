-- A kit has each pin that is demanded: the leaf of the role has a pin of the demand's name on its layer.
use Rattle.std.proofs.Common.{◌≡◌, ℕ, zero, suc, Bool, true, false, cond, List, [], ◌∷◌, length, Option, Some, refl, ap, subst, ◌∙◌, arith}
use Rattle.std.specs.Prelude.{slice_get, option_map, option_and_then, ◌==◌, if◌then◌else◌}
use Rattle.std.specs.List.{find}
use Rattle.std.specs.Str.{bytes_eq}
use Rattle.std.proofs.lemmas.Bool.{eq-eqb}
use Rattle.std.proofs.lemmas.Option.{slice_get-get_or, slice_get_within}
use Rattle.or_geom.proofs.NameLaws.{same_name}
use Rattle.tech_rules.specs.declared.tech.Wire.{Wire}
use Rattle.cell_roles.specs.declared.role.Role.{Role}
use Rattle.cell_roles.specs.Roles.{all_roles, role_ports}
use Rattle.leaf_shapes.specs.declared.demand.Metal.{Metal}
use Rattle.leaf_shapes.specs.declared.demand.Metal.TheVariants.{M1, M2, M3, M4}
use Rattle.leaf_shapes.specs.declared.pins.LeafPin.{LeafPin}
use Rattle.leaf_shapes.specs.Demands.{metal_layer, role_demands}
use Rattle.leaf_shapes.proofs.PinLaws.{exists_at}
use Rattle.leaf_tables.specs.declared.kit.Kit.{Kit}
use Rattle.leaf_tables.specs.declared.kit.Leaf.{Leaf}
use Rattle.leaf_tables.specs.Alignment.{role_number, leaf_in}
use Rattle.leaf_tables.specs.Kits.{IsKit}
use Rattle.leaf_tables.proofs.RoleLaws.{role_there, four_metals, in_kit}
use Rattle.floorplan.specs.LayoutOfKit.{pin_shape, pin_on, pin_rect, layer_of_metal}
use Rattle.floorplan.specs.Demanded.{metal_number}
use Rattle.asked_pins.specs.Demanded.{IsDemandedPort, HasPortShape}

-- where one passes, a first one is found
pub some_found : {X : Type 0} (p : X → Bool) (xs : List X) (k : ℕ) (x : X) → slice_get xs k ≡ Some x → p x ≡ true
    → (first : X) × (find p xs ≡ Some first)
some_found p [] k x at passes = absurd cc
some_found {X} p (y ∷ ys) zero x at passes =
    let here : y ≡ x = cc in
    (y, ap (λ (b : Bool). cond b (Some y) (find p ys)) (ap p here ∙ passes))
some_found {X} p (y ∷ ys) (suc k) x at passes = by (p y) (some_found p ys k x at passes) where
  by : (b : Bool) → (first : X) × (find p ys ≡ Some first) → (first : X) × (cond b (Some y) (find p ys) ≡ Some first)
  by true later = (y, refl)
  by false later = later

pub metal_at : (wire : Wire) → length wire.metals ≡ 4 → (on : Metal) → slice_get wire.metals (metal_number on) ≡ Some (metal_layer wire on)
metal_at wire four M1 = slice_get-get_or wire.metals 0 0 (omega (arith, four))
metal_at wire four M2 = slice_get-get_or wire.metals 1 0 (omega (arith, four))
metal_at wire four M3 = slice_get-get_or wire.metals 2 0 (omega (arith, four))
metal_at wire four M4 = slice_get-get_or wire.metals 3 0 (omega (arith, four))

-- what a layout takes is the shape of the first pin of the name on the layer
shape_is : (kit : Kit) (role : Role) (port metal layer : ℕ) (name : List ℕ) (wire : Wire) (leaf : Leaf) (pin : LeafPin)
    → slice_get (role_ports role) port ≡ Some name → kit.tech.wire ≡ Some wire → slice_get wire.metals metal ≡ Some layer
    → leaf_in kit.leaves role ≡ Some leaf
    → pin_on leaf.pins name layer ≡ Some pin → pin_shape kit role port metal ≡ Some pin.rect
shape_is kit role port metal layer name wire leaf pin named wired at there first =
    ap (option_and_then (λ (n : List ℕ). option_and_then (pin_rect (leaf_in kit.leaves role) n) (layer_of_metal kit.tech.wire metal))) named
    ∙ ap (λ (w : Option Wire). option_and_then (pin_rect (leaf_in kit.leaves role) name) (layer_of_metal w metal)) wired
    ∙ ap (option_and_then (pin_rect (leaf_in kit.leaves role) name)) at
    ∙ ap (λ (l : Option Leaf). pin_rect l name layer) there
    ∙ ap (option_map (λ (p : LeafPin). p.rect)) first

passes : (name : List ℕ) (layer : ℕ) (pin : LeafPin) → pin.pin ≡ name → pin.layer ≡ layer
    → (if bytes_eq pin.pin name then pin.layer == layer else false) ≡ true
passes name layer pin named on =
    ap (λ (n : List ℕ). if bytes_eq n name then pin.layer == layer else false) named
    ∙ ap (λ (b : Bool). if b then pin.layer == layer else false) (same_name name)
    ∙ eq-eqb pin.layer layer on

pub demanded_there : (kit : Kit) → IsKit kit → (role : Role) (port metal : ℕ) → IsDemandedPort role port metal → HasPortShape kit role port metal
demanded_there kit is role port metal asked =
    let demand = asked.demand in
    let number = slice_get_within all_roles (role_number role) role (role_there role) in
    let whole = is.leaves.sized in
    let leaf = exists_at kit.leaves (role_number role) (omega (arith, number, whole)) in
    let pins = (in_kit kit role leaf.0 is leaf.1).pins in
    let within = slice_get_within (role_demands role) asked.place demand asked.there in
    let sized = pins.sized in
    let pin = exists_at leaf.0.pins asked.place (omega (arith, within, sized)) in
    let drawn = pins.each asked.place demand pin.0 asked.there pin.1 in
    let layer = metal_layer is.wire demand.metal in
    let is_on : LeafPin → Bool = λ p. if bytes_eq p.pin demand.pin then p.layer == layer else false in
    let first = some_found is_on leaf.0.pins asked.place pin.0 pin.1 (passes demand.pin layer pin.0 drawn.named drawn.is.has.0) in
    let at = subst (λ (m : ℕ). slice_get is.wire.metals m ≡ Some layer) asked.on (metal_at is.wire (four_metals kit is) demand.metal) in
    (first.0.rect, shape_is kit role port metal layer demand.pin is.wire leaf.0 first.0 asked.named is.wired at leaf.1 first.1)
