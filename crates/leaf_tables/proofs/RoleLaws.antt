-- The leaf of each role of a kit: where it stands, and how far it and its pins reach.
use Rattle.std.proofs.Common.{◌≡◌, inl, ℕ, ◌<◌, List, length, get_or, Some, Option, refl, ap, sym, subst, arith}
use Rattle.std.specs.Prelude.{slice_get, slice_index, Contains, IfSome}
use Rattle.std.proofs.lemmas.Int.{ints}
use Rattle.std.proofs.lemmas.Option.{slice_get-get_or, slice_get_read, slice_get_within}
use Rattle.or_geom.specs.declared.shape.Shape.{Shape}
use Rattle.or_geom.specs.Distance.{IsReachable}
use Rattle.or_geom.proofs.ListLaws.{contained_at}
use Rattle.tech_rules.specs.declared.tech.Wire.{Wire}
use Rattle.cell_roles.specs.declared.role.Role.{Role}
use Rattle.cell_roles.specs.declared.leaf_role.LeafRole.{LeafRole}
use Rattle.cell_roles.specs.declared.leaf_role.LeafRole.TheVariants.{Common}
use Rattle.cell_roles.specs.declared.role.Role.TheVariants.{Bitcell, Precharge, Mux, Tie, Sense, Write, RowNand2, RowNand3, Driver, Nand2, Nand3, Inv, Dff, Delay}
use Rattle.cell_roles.specs.Roles.{all_roles}
use Rattle.cell_roles.specs.LeafRoles.{pin_role}
use Rattle.leaf_shapes.specs.declared.demand.Metal.{Metal}
use Rattle.leaf_shapes.specs.declared.demand.Metal.TheVariants.{M1, M2, M3, M4}
use Rattle.leaf_shapes.specs.declared.pins.LeafPin.{LeafPin}
use Rattle.leaf_shapes.specs.Demands.{metal_layer, role_demands}
use Rattle.leaf_shapes.specs.Outline.{IsWireLayer}
use Rattle.leaf_shapes.proofs.PinLaws.{exists_at}
use Rattle.leaf_tables.specs.declared.kit.Kit.{Kit}
use Rattle.leaf_tables.specs.declared.kit.Leaf.{Leaf}
use Rattle.leaf_tables.specs.Alignment.{role_number, leaf_in}
use Rattle.leaf_tables.specs.Kits.{IsKit, source_of}
use Rattle.leaf_tables.specs.Leaves.{LeafSource, IsLeaf}
use Rattle.tech_rules.specs.Facts.{IsWire}
use Rattle.leaf_tables.specs.NearLeaf.{IsNearLeaf}

pub layer_at : (layers : List ℕ) (k : ℕ) → k < length layers → Contains layers (slice_index layers k)
layer_at layers k lt = contained_at layers k (slice_index layers k) (slice_get-get_or layers k 0 lt)

pub metal_listed : (wire : Wire) (metal : Metal) → length wire.metals ≡ 4 → Contains wire.metals (metal_layer wire metal)
metal_listed wire M1 four = layer_at wire.metals 0 (omega (arith, four))
metal_listed wire M2 four = layer_at wire.metals 1 (omega (arith, four))
metal_listed wire M3 four = layer_at wire.metals 2 (omega (arith, four))
metal_listed wire M4 four = layer_at wire.metals 3 (omega (arith, four))

near_pin : (source : LeafSource) (role : LeafRole) (leaf : Leaf) → length source.wire.metals ≡ 4 → IsLeaf source role leaf → (k : ℕ) (pin : LeafPin) → slice_get leaf.pins k ≡ Some pin → IsReachable pin.rect
near_pin source role leaf four is k pin there =
    let sized = is.pins.sized in
    let within = slice_get_within leaf.pins k pin there in
    let demand = exists_at (role_demands (pin_role role)) k (omega (arith, sized, within)) in
    let drawn = is.pins.each k demand.0 pin demand.1 there in
    let shape : Shape = record { layer = pin.layer; rect = pin.rect } in
    let outline = is.sized.outline in
    let layer : IsWireLayer source.wire pin.layer = inl (subst (Contains source.wire.metals) (sym drawn.is.has.0) (metal_listed source.wire demand.0.metal four)) in
    let inside = outline.inside shape drawn.is.bound.binds.listed layer in
    let left = inside.left in
    let right = inside.right in
    let low = inside.low in
    let high = inside.high in
    let x1 = outline.is.left in
    let y1 = outline.is.low in
    let x2 = outline.is.right in
    let y2 = outline.is.high in
    let narrow = outline.narrow in
    let below = outline.low in
    let wide = pin.rect.wide in
    let tall = pin.rect.tall in
    record {
      x1 = record { above = omega (arith, ints, left, x1); below = omega (arith, ints, right, x2, narrow, wide) };
      y1 = record { above = omega (arith, ints, low, y1); below = omega (arith, ints, high, y2, below, tall) };
      x2 = record { above = omega (arith, ints, left, x1, wide); below = omega (arith, ints, right, x2, narrow) };
      y2 = record { above = omega (arith, ints, low, y1, tall); below = omega (arith, ints, high, y2, below) };
    }

near_leaf : (source : LeafSource) (role : LeafRole) (leaf : Leaf) → length source.wire.metals ≡ 4 → IsLeaf source role leaf → IsNearLeaf leaf
near_leaf source role leaf four is =
    let outline = is.sized.outline in
    let x1 = outline.is.left in
    let y1 = outline.is.low in
    let x2 = outline.is.right in
    let y2 = outline.is.high in
    let narrow = outline.narrow in
    let below = outline.low in
    let wide = outline.shape.rect.wide in
    let tall = outline.shape.rect.tall in
    record {
      width = record { above = omega (arith, ints, x1, x2, wide); below = narrow };
      height = record { above = omega (arith, ints, y1, y2, tall); below = below };
      pins = near_pin source role leaf four is;
    }

-- the roles stand in the order of their numbers
pub role_there : (role : Role) → slice_get all_roles (role_number role) ≡ Some role
role_there Bitcell = refl
role_there Precharge = refl
role_there Mux = refl
role_there Tie = refl
role_there Sense = refl
role_there Write = refl
role_there RowNand2 = refl
role_there RowNand3 = refl
role_there Driver = refl
role_there Nand2 = refl
role_there Nand3 = refl
role_there Inv = refl
role_there Dff = refl
role_there Delay = refl

pub few_roles : (role : Role) → role_number role < 14
few_roles Bitcell = omega arith
few_roles Precharge = omega arith
few_roles Mux = omega arith
few_roles Tie = omega arith
few_roles Sense = omega arith
few_roles Write = omega arith
few_roles RowNand2 = omega arith
few_roles RowNand3 = omega arith
few_roles Driver = omega arith
few_roles Nand2 = omega arith
few_roles Nand3 = omega arith
few_roles Inv = omega arith
few_roles Dff = omega arith
few_roles Delay = omega arith

pub four_metals : (kit : Kit) (is : IsKit kit) → length is.wire.metals ≡ 4
four_metals kit is = (subst (λ (w : Option Wire). IfSome w (IsWire kit.tech.layers)) is.wired is.tech.wire).four

pub in_kit : (kit : Kit) (role : Role) (leaf : Leaf) (is : IsKit kit) → leaf_in kit.leaves role ≡ Some leaf → IsLeaf (source_of kit is.wire) (Common role) leaf
in_kit kit role leaf is there = is.leaves.each (role_number role) role leaf (role_there role) there

pub near_in_kit : (kit : Kit) (role : Role) (leaf : Leaf) → IsKit kit → leaf_in kit.leaves role ≡ Some leaf → IsNearLeaf leaf
near_in_kit kit role leaf is there = near_leaf (source_of kit is.wire) (Common role) leaf (four_metals kit is) (in_kit kit role leaf is there)

pub pins_in_kit : (kit : Kit) (role : Role) (leaf : Leaf) → IsKit kit → leaf_in kit.leaves role ≡ Some leaf → length leaf.pins ≡ length (role_demands role)
pins_in_kit kit role leaf is there = (in_kit kit role leaf is there).pins.sized

-- what stands at the role's number is its leaf
pub leaf_there : (kit : Kit) (role : Role) (leaf : Leaf) (leaves : List Leaf) (n : ℕ) → IsKit kit → leaves ≡ kit.leaves → n ≡ role_number role → leaf ≡ get_or leaves n leaf → leaf_in kit.leaves role ≡ Some leaf
leaf_there kit role leaf leaves n is same number at =
    let below = slice_get_within all_roles (role_number role) role (role_there role) in
    let sized = is.leaves.sized in
    let long = ap length same in
    let within : n < length leaves = omega (arith, below, sized, long, number) in
    subst (λ (l : List Leaf). slice_get l (role_number role) ≡ Some leaf) same (subst (λ (k : ℕ). slice_get leaves k ≡ Some leaf) number (slice_get_read leaves (length leaves) n leaf refl within at))

-- each role has a leaf
pub role_below : (kit : Kit) → IsKit kit → (place : ℕ) (role : Role) → place ≡ role_number role → place < length kit.leaves
role_below kit is place role at = let few = few_roles role in let sized : length kit.leaves ≡ 14 = is.leaves.sized in omega (arith, few, sized, at)
