-- Which of the shapes of a leaf cell's pins is that of a port on a metal, and where it begins.
use Rattle.std.proofs.Common.{◌≡◌, inl, ℕ, suc, Bool, false, cond, not, ◌+◌, List, [], ◌∷◌, length, Option, Some, refl, ap, subst, sym, ◌∙◌, arith}
use Rattle.std.specs.Prelude.{slice_get, Contains, IfSome, option_map, option_and_then, ◌==◌, if◌then◌else◌}
use Rattle.std.specs.List.{find, position_or_len}
use Rattle.std.specs.Str.{bytes_eq}
use Rattle.std.proofs.lemmas.Bool.{eq-eqb, ne_eqb}
use Rattle.std.proofs.lemmas.Int.{ints}
use Rattle.std.proofs.lemmas.List.Folds.{find_at}
use Rattle.std.proofs.lemmas.Option.{slice_get-get_or, slice_get_within}
use Rattle.or_geom.specs.declared.shape.Shape.{Shape}
use Rattle.tech_rules.specs.declared.tech.Wire.{Wire}
use Rattle.tech_rules.specs.Facts.{IsWire}
use Rattle.channel_router.specs.Apart.{AreSevenLayers}
use Rattle.cell_roles.specs.declared.role.Role.{Role}
use Rattle.cell_roles.specs.declared.leaf_role.LeafRole.TheVariants.{Common}
use Rattle.cell_roles.specs.Roles.{role_ports}
use Rattle.leaf_shapes.specs.declared.demand.Metal.{Metal}
use Rattle.leaf_shapes.specs.declared.demand.Metal.TheVariants.{M1, M2, M3, M4}
use Rattle.leaf_shapes.specs.declared.pins.LeafPin.{LeafPin}
use Rattle.leaf_shapes.specs.Demands.{PinDemand, metal_layer, role_demands}
use Rattle.leaf_shapes.specs.Outline.{IsWireLayer}
use Rattle.leaf_shapes.proofs.PinLaws.{exists_at}
use Rattle.leaf_tables.specs.declared.kit.Kit.{Kit}
use Rattle.leaf_tables.specs.declared.kit.Leaf.{Leaf}
use Rattle.leaf_tables.specs.Alignment.{leaf_in}
use Rattle.leaf_tables.specs.Kits.{IsKit, source_of}
use Rattle.leaf_tables.specs.Leaves.{LeafSource, IsLeaf}
use Rattle.leaf_tables.specs.NearLeaf.{IsLeafLength}
use Rattle.leaf_tables.proofs.RoleLaws.{metal_listed, in_kit}
use Rattle.floorplan.specs.LayoutOfKit.{layout_kit, pin_shape, pin_rect, shape_or_square, layer_of_metal}
use Rattle.floorplan.specs.Demanded.{metal_number, same_metal, asks_for, IsDemandOf}

-- the kit's wire
pub wire_there : (kit : Kit) (is : IsKit kit) → IsWire kit.tech.layers is.wire
wire_there kit is = subst (λ (w : Option Wire). IfSome w (IsWire kit.tech.layers)) is.wired is.tech.wire

-- it has seven layers that differ
pub seven_layers : (wire : Wire) (layers : List _) → IsWire layers wire → AreSevenLayers wire
seven_layers wire layers is = record {
  metals = λ i j lt below e. is.metals_differ i j 0 lt (let four = is.four in omega (arith, four, below)) e;
  cuts = λ i j lt below e. is.cuts_differ i j 0 lt (let three = is.three in omega (arith, three, below)) e;
  others = λ i j lt below e. is.apart i 0 (let three = is.three in omega (arith, three, lt)) j 0 (let four = is.four in omega (arith, four, below)) e;
}

pub seven_in_kit : (kit : Kit) (is : IsKit kit) → AreSevenLayers is.wire
seven_in_kit kit is = seven_layers is.wire kit.tech.layers (wire_there kit is)

-- a shape of a pin begins in its cell
near_left : (source : LeafSource) (role : Role) (leaf : Leaf) → length source.wire.metals ≡ 4 → IsLeaf source (Common role) leaf → (k : ℕ) (pin : LeafPin) → slice_get leaf.pins k ≡ Some pin → IsLeafLength pin.rect.x1
near_left source role leaf four is k pin there =
    let sized = is.pins.sized in
    let within = slice_get_within leaf.pins k pin there in
    let demand = exists_at (role_demands role) k (omega (arith, sized, within)) in
    let drawn = is.pins.each k demand.0 pin demand.1 there in
    let shape : Shape = record { layer = pin.layer; rect = pin.rect } in
    let outline = is.sized.outline in
    let layer : IsWireLayer source.wire pin.layer = inl (subst (Contains source.wire.metals) (sym drawn.is.has.0) (metal_listed source.wire demand.0.metal four)) in
    let inside = outline.inside shape drawn.is.bound.binds.listed layer in
    let left = inside.left in
    let right = inside.right in
    let x1 = outline.is.left in
    let x2 = outline.is.right in
    let narrow = outline.narrow in
    let wide = pin.rect.wide in
    record {
      above = omega (arith, ints, left, x1);
      below = omega (arith, ints, right, x2, narrow, wide);
    }

pub left_in_kit : (kit : Kit) (role : Role) (leaf : Leaf) → IsKit kit → leaf_in kit.leaves role ≡ Some leaf → (k : ℕ) (pin : LeafPin) → slice_get leaf.pins k ≡ Some pin → IsLeafLength pin.rect.x1
left_in_kit kit role leaf is there = near_left (source_of kit is.wire) role leaf (wire_there kit is).four (in_kit kit role leaf is there)

-- which pin is a port's

same_place : {A B : Type 0} (p : A → Bool) (q : B → Bool) (xs : List A) (ys : List B) → length xs ≡ length ys → ((k : ℕ) (x : A) (y : B) → slice_get xs k ≡ Some x → slice_get ys k ≡ Some y → p x ≡ q y) → position_or_len p xs ≡ position_or_len q ys
same_place p q [] [] sized same = refl
same_place p q [] (y ∷ ys) sized same = absurd (omega (arith, sized))
same_place p q (x ∷ xs) [] sized same = absurd (omega (arith, sized))
same_place p q (x ∷ xs) (y ∷ ys) sized same =
    let later = same_place p q xs ys (omega (arith, sized)) (λ k. same (suc k)) in
    step (p x) (q y) (same 0 x y refl refl) later
  where
    step : (a b : Bool) → a ≡ b → position_or_len p xs ≡ position_or_len q ys → cond (not a) (1 + position_or_len p xs) 0 ≡ cond (not b) (1 + position_or_len q ys) 0
    step a b e later = (λ i. cond (not (e i)) (1 + later i) 0)

-- the seven layers differ
metal_differs : (wire : Wire) (seven : AreSevenLayers wire) (a b : Metal) → (metal_layer wire a == metal_layer wire b) ≡ same_metal a b
metal_differs wire seven M1 M1 = eq-eqb _ _ refl
metal_differs wire seven M1 M2 = ne_eqb _ _ (λ e. seven.metals 0 1 (omega arith) (omega arith) e)
metal_differs wire seven M1 M3 = ne_eqb _ _ (λ e. seven.metals 0 2 (omega arith) (omega arith) e)
metal_differs wire seven M1 M4 = ne_eqb _ _ (λ e. seven.metals 0 3 (omega arith) (omega arith) e)
metal_differs wire seven M2 M1 = ne_eqb _ _ (λ e. seven.metals 0 1 (omega arith) (omega arith) (sym e))
metal_differs wire seven M2 M2 = eq-eqb _ _ refl
metal_differs wire seven M2 M3 = ne_eqb _ _ (λ e. seven.metals 1 2 (omega arith) (omega arith) e)
metal_differs wire seven M2 M4 = ne_eqb _ _ (λ e. seven.metals 1 3 (omega arith) (omega arith) e)
metal_differs wire seven M3 M1 = ne_eqb _ _ (λ e. seven.metals 0 2 (omega arith) (omega arith) (sym e))
metal_differs wire seven M3 M2 = ne_eqb _ _ (λ e. seven.metals 1 2 (omega arith) (omega arith) (sym e))
metal_differs wire seven M3 M3 = eq-eqb _ _ refl
metal_differs wire seven M3 M4 = ne_eqb _ _ (λ e. seven.metals 2 3 (omega arith) (omega arith) e)
metal_differs wire seven M4 M1 = ne_eqb _ _ (λ e. seven.metals 0 3 (omega arith) (omega arith) (sym e))
metal_differs wire seven M4 M2 = ne_eqb _ _ (λ e. seven.metals 1 3 (omega arith) (omega arith) (sym e))
metal_differs wire seven M4 M3 = ne_eqb _ _ (λ e. seven.metals 2 3 (omega arith) (omega arith) (sym e))
metal_differs wire seven M4 M4 = eq-eqb _ _ refl

abbrev is_on : List ℕ → ℕ → LeafPin → Bool
is_on name layer pin = if bytes_eq pin.pin name then pin.layer == layer else false

as_asked : (wire : Wire) → AreSevenLayers wire → (name : List ℕ) (on : Metal) (pin : LeafPin) (d : PinDemand) → pin.pin ≡ d.pin → pin.layer ≡ metal_layer wire d.metal → is_on name (metal_layer wire on) pin ≡ asks_for name on d
as_asked wire seven name on pin d named layer =
    ap (λ (n : List ℕ). if bytes_eq n name then pin.layer == metal_layer wire on else false) named
    ∙ ap (λ (b : Bool). if bytes_eq d.pin name then b else false) (ap (λ (l : ℕ). l == metal_layer wire on) layer ∙ metal_differs wire seven d.metal on)

metal_at : (wire : Wire) → length wire.metals ≡ 4 → (on : Metal) → slice_get wire.metals (metal_number on) ≡ Some (metal_layer wire on)
metal_at wire four M1 = slice_get-get_or wire.metals 0 0 (omega (arith, four))
metal_at wire four M2 = slice_get-get_or wire.metals 1 0 (omega (arith, four))
metal_at wire four M3 = slice_get-get_or wire.metals 2 0 (omega (arith, four))
metal_at wire four M4 = slice_get-get_or wire.metals 3 0 (omega (arith, four))

found : (kit : Kit) (is : IsKit kit) → AreSevenLayers is.wire → (role : Role) (leaf : Leaf) → leaf_in kit.leaves role ≡ Some leaf → (name : List ℕ) (on : Metal) → find (is_on name (metal_layer is.wire on)) leaf.pins ≡ slice_get leaf.pins (position_or_len (asks_for name on) (role_demands role))
found kit is seven role leaf there name on =
    let leaf_is = in_kit kit role leaf is there in
    find_at (is_on name (metal_layer is.wire on)) leaf.pins
    ∙ ap (λ (k : ℕ). slice_get leaf.pins k) (same_place (is_on name (metal_layer is.wire on)) (asks_for name on) leaf.pins (role_demands role) leaf_is.pins.sized (λ k pin d at_pin at_d. let drawn = leaf_is.pins.each k d pin at_d at_pin in as_asked is.wire seven name on pin d drawn.named drawn.is.has.0))

shape_there : (kit : Kit) (role : Role) (port metal layer : ℕ) (name : List ℕ) (wire : Wire) (leaf : Leaf) (pin : LeafPin) → slice_get (role_ports role) port ≡ Some name → kit.tech.wire ≡ Some wire → slice_get wire.metals metal ≡ Some layer → leaf_in kit.leaves role ≡ Some leaf
    → find (is_on name layer) leaf.pins ≡ Some pin → pin_shape kit role port metal ≡ Some pin.rect
shape_there kit role port metal layer name wire leaf pin named wired at there first =
    ap (option_and_then (λ (n : List ℕ). option_and_then (pin_rect (leaf_in kit.leaves role) n) (layer_of_metal kit.tech.wire metal))) named
    ∙ ap (λ (w : Option Wire). option_and_then (pin_rect (leaf_in kit.leaves role) name) (layer_of_metal w metal)) wired
    ∙ ap (option_and_then (pin_rect (leaf_in kit.leaves role) name)) at
    ∙ ap (λ (l : Option Leaf). pin_rect l name layer) there
    ∙ ap (option_map (λ (p : LeafPin). p.rect)) first

-- the port's shape is that of the pin at the demand's index
pub pin_is : (kit : Kit) (is : IsKit kit) → AreSevenLayers is.wire → (role : Role) (leaf : Leaf) → leaf_in kit.leaves role ≡ Some leaf → (k : ℕ) (pin : LeafPin) → slice_get leaf.pins k ≡ Some pin → (port metal : ℕ) → IsDemandOf role port metal k
    → pin.rect ≡ (layout_kit kit).pin role port metal
pin_is kit is seven role leaf there k pin at port metal d =
    let layer = metal_at is.wire (wire_there kit is).four d.on in
    let first = found kit is seven role leaf there d.name d.on ∙ (ap (λ (n : ℕ). slice_get leaf.pins n) d.first ∙ at) in
    sym (ap shape_or_square (shape_there kit role port metal (metal_layer is.wire d.on) d.name is.wire leaf pin d.named is.wired (subst (λ (n : ℕ). slice_get is.wire.metals n ≡ Some (metal_layer is.wire d.on)) d.number layer) there first))
