-- The leaf of each role of a kit, and the shapes of its pins.
use Rattle.std.proofs.Common.{◌≡◌, inl, ℕ, suc, ◌<◌, ℤ, pos, negsuc, ◌≤ℤ◌, ◌<ℤ◌, Bool, true, false, cond, List, [], ◌∷◌, length, find, Option, None, Some, option_map, option_and_then, refl, sym, ap, subst, ◌∙◌, arith}
use Rattle.std.specs.Prelude.{slice_get, slice_index, Contains, ◌==◌, if◌then◌else◌}
use Rattle.std.specs.Str.{bytes_eq}
use Rattle.std.proofs.lemmas.Bool.Decides.{Decides-eqb}
use Rattle.std.proofs.lemmas.Int.{ints}
use Rattle.std.proofs.lemmas.Option.{same_Some, slice_get_within, get_or_from_slice_get}
use Rattle.or_geom.specs.declared.shape.Rect.{Rect}
use Rattle.or_geom.specs.declared.shape.Shape.{Shape}
use Rattle.cell_roles.specs.declared.role.Role.{Role}
use Rattle.cell_roles.specs.declared.leaf_role.LeafRole.{LeafRole}
use Rattle.cell_roles.specs.declared.leaf_role.LeafRole.TheVariants.{Common}
use Rattle.cell_roles.specs.Roles.{all_roles}
use Rattle.cell_roles.specs.LeafRoles.{leaf_role_name}
use Rattle.tech_rules.specs.declared.tech.RoleName.{RoleName}
use Rattle.tech_rules.specs.declared.tech.Wire.{Wire}
use Rattle.cell_hierarchy.specs.FlatSet.{IsFlatShape}
use Rattle.leaf_shapes.specs.declared.pins.LeafPin.{LeafPin}
use Rattle.leaf_shapes.specs.Demands.{PinDemand, role_demands}
use Rattle.leaf_shapes.specs.Pins.{IsPinFor}
use Rattle.leaf_shapes.proofs.PinLaws.{exists_at}
use Rattle.leaf_tables.specs.declared.kit.Kit.{Kit}
use Rattle.leaf_tables.specs.declared.kit.Leaf.{Leaf}
use Rattle.leaf_tables.specs.Alignment.{role_number, leaf_in}
use Rattle.leaf_tables.specs.Kits.{IsKit, source_of}
use Rattle.leaf_tables.specs.Leaves.{LeafSource, IsLeaf, cell_named_for, drawing_in, size_of}
use Rattle.port_lists.specs.Cells.{named_cell, cell_in}
use Rattle.floorplan.specs.LeafSides.{side_of, leaf_width, leaf_height}
use Rattle.floorplan.specs.LayoutOfKit.{unit_square, shape_or_square, pin_shape, pin_on, port_name, layer_of_metal, pin_rect}
use Rattle.view_cover.specs.Bits.{LiesWithin, LiesInCell}
use Rattle.leaf_tables.proofs.RoleLaws.{role_there, layer_at, metal_listed, in_kit}
use Rattle.floorplan.proofs.DemandLaws.{wire_there}

-- The wires of a kit

pub metal_there : (wire : Wire) (k : ℕ) → length wire.metals ≡ 4 → k < 4 → Contains wire.metals (slice_index wire.metals k)
metal_there wire k four lt = layer_at wire.metals k (omega (arith, four, lt))

-- The leaf of a role

pub record HasRole (kit : Kit) (is : IsKit kit) (role : Role) : Type 0 where
  pub leaf : Leaf
  pub there : leaf_in kit.leaves role ≡ Some leaf
  pub has : IsLeaf (source_of kit is.wire) (Common role) leaf

pub role_leaf : (kit : Kit) (is : IsKit kit) (role : Role) → HasRole kit is role
role_leaf kit is role =
    let within = slice_get_within all_roles (role_number role) role (role_there role) in
    let sized = is.leaves.sized in
    let leaf = exists_at kit.leaves (role_number role) (omega (arith, within, sized)) in
    record { leaf = leaf.0; there = leaf.1; has = is.leaves.each (role_number role) role leaf.0 (role_there role) leaf.1 }

positive_side : (z : ℤ) → pos 0 <ℤ z → pos (side_of (Some z)) ≡ z
positive_side (pos n) some = refl
positive_side (negsuc n) some = absurd (omega (arith, ints, some))

some_width : (x1 x2 w : ℤ) → x1 <ℤ x2 → x1 ≡ pos 0 → x2 ≡ w → pos 0 <ℤ w
some_width x1 x2 w lt a b = omega (arith, ints, lt, a, b)

pub width_is : (kit : Kit) (is : IsKit kit) (role : Role) (leaf : Leaf) → leaf_in kit.leaves role ≡ Some leaf → pos (leaf_width kit role) ≡ leaf.width
width_is kit is role leaf there =
    let o = (in_kit kit role leaf is there).sized.outline in
    ap (λ (found : Option Leaf). pos (side_of (option_map (λ (l : Leaf). l.width) found))) there ∙ positive_side leaf.width (some_width o.shape.rect.x1 o.shape.rect.x2 leaf.width o.shape.rect.wide o.is.left o.is.right)

pub height_is : (kit : Kit) (is : IsKit kit) (role : Role) (leaf : Leaf) → leaf_in kit.leaves role ≡ Some leaf → pos (leaf_height kit role) ≡ leaf.height
height_is kit is role leaf there =
    let o = (in_kit kit role leaf is there).sized.outline in
    ap (λ (found : Option Leaf). pos (side_of (option_map (λ (l : Leaf). l.height) found))) there ∙ positive_side leaf.height (some_width o.shape.rect.y1 o.shape.rect.y2 leaf.height o.shape.rect.tall o.is.low o.is.high)

within_sides : (w h w2 h2 : ℤ) (outer r : Rect) → outer.x1 ≡ pos 0 → outer.y1 ≡ pos 0 → outer.x2 ≡ w → outer.y2 ≡ h → w2 ≡ w → h2 ≡ h → outer.x1 ≤ℤ r.x1 → outer.y1 ≤ℤ r.y1 → r.x2 ≤ℤ outer.x2 → r.y2 ≤ℤ outer.y2 → LiesWithin (pos 0) (pos 0) w2 h2 r
within_sides w h w2 h2 outer r a b c d e k l m n o = record { from = omega (arith, ints, a, l); above = omega (arith, ints, b, m); to = omega (arith, ints, c, e, n); below = omega (arith, ints, d, k, o) }

-- a leaf of the role with these sides
pub record HasSides (source : LeafSource) (role : LeafRole) (w h : ℕ) : Type 0 where
  pub leaf : Leaf
  pub is : IsLeaf source role leaf
  pub width : pos w ≡ leaf.width
  pub height : pos h ≡ leaf.height

abbrev pub kit_sides : (kit : Kit) (is : IsKit kit) (role : Role) (leaf : Leaf) → leaf_in kit.leaves role ≡ Some leaf → HasSides (source_of kit is.wire) (Common role) (leaf_width kit role) (leaf_height kit role)
kit_sides kit is role leaf there = record { leaf = leaf; is = in_kit kit role leaf is there; width = width_is kit is role leaf there; height = height_is kit is role leaf there }

-- a shape of the leaf's cell on a metal lies in the cell
shape_inside : (source : LeafSource) (role : LeafRole) (w h : ℕ) (l : HasSides source role w h) (s : Shape) → Contains l.is.lists.shapes s → Contains source.wire.metals s.layer → LiesInCell w h s.rect
shape_inside source role w h l s listed metal =
    let o = l.is.sized.outline in
    let inside = o.inside s listed (inl metal) in
    within_sides l.leaf.width l.leaf.height (pos w) (pos h) o.shape.rect s.rect o.is.left o.is.low o.is.right o.is.high l.width l.height inside.left inside.low inside.right inside.high

-- Pins

-- the pin at this place of the leaf's pins, and the demand that it is for
pub record IsPinAt (kit : Kit) (is : IsKit kit) (role : Role) (leaf : Leaf) (there : leaf_in kit.leaves role ≡ Some leaf) (demand : PinDemand) (pin : LeafPin) : Type 0 where
  pub k : ℕ
  pub demanded : slice_get (role_demands role) k ≡ Some demand
  pub drawn : IsPinFor (drawing_in (source_of kit is.wire) (size_of leaf) (in_kit kit role leaf is there).lists) demand pin

pub pin_at : (kit : Kit) (is : IsKit kit) (role : Role) (leaf : Leaf) (there : leaf_in kit.leaves role ≡ Some leaf) (k : ℕ) (pin : LeafPin) → slice_get leaf.pins k ≡ Some pin → (demand : PinDemand) × IsPinAt kit is role leaf there demand pin
pin_at kit is role leaf there k pin at =
    let pins = (in_kit kit role leaf is there).pins in
    let sized = pins.sized in
    let within = slice_get_within leaf.pins k pin at in
    let demand = exists_at (role_demands role) k (omega (arith, sized, within)) in
    (demand.0, record { k = k; demanded = demand.1; drawn = pins.each k demand.0 pin demand.1 at })

pub demand_at : (kit : Kit) (is : IsKit kit) (role : Role) (leaf : Leaf) (there : leaf_in kit.leaves role ≡ Some leaf) (k : ℕ) (demand : PinDemand) → slice_get (role_demands role) k ≡ Some demand → (pin : LeafPin) × IsPinAt kit is role leaf there demand pin
demand_at kit is role leaf there k demand at =
    let pins = (in_kit kit role leaf is there).pins in
    let sized = pins.sized in
    let within = slice_get_within (role_demands role) k demand at in
    let pin = exists_at leaf.pins k (omega (arith, sized, within)) in
    (pin.0, record { k = k; demanded = at; drawn = pins.each k demand pin.0 at pin.1 })

abbrev pub shape_of : LeafPin → Shape
shape_of pin = record { layer = pin.layer; rect = pin.rect }

pub pin_inside : (kit : Kit) (is : IsKit kit) (role : Role) (leaf : Leaf) (there : leaf_in kit.leaves role ≡ Some leaf) (demand : PinDemand) (pin : LeafPin) → IsPinAt kit is role leaf there demand pin → LiesInCell (leaf_width kit role) (leaf_height kit role) pin.rect
pin_inside kit is role leaf there demand pin p =
    shape_inside (source_of kit is.wire) (Common role) (leaf_width kit role) (leaf_height kit role) (kit_sides kit is role leaf there) (shape_of pin) p.drawn.is.bound.binds.listed (subst (Contains is.wire.metals) (sym p.drawn.is.has.0) (metal_listed is.wire demand.metal (wire_there kit is).four))

-- What a layout takes for a pin

pub square_or : (P : Rect → Type 0) (o : Option Rect) → P unit_square → ((r : Rect) → o ≡ Some r → P r) → P (shape_or_square o)
square_or P None square each = square
square_or P (Some r) square each = each r refl

then_some : {A B : Type 0} (g : A → Option B) (o : Option A) (y : B) → option_and_then g o ≡ Some y → (x : A) × (o ≡ Some x) × (g x ≡ Some y)
then_some g None y e = absurd cc
then_some g (Some x) y e = (x, refl, e)

map_some : {A B : Type 0} (g : A → B) (o : Option A) (y : B) → option_map g o ≡ Some y → (x : A) × (o ≡ Some x) × (g x ≡ y)
map_some g None y e = absurd cc
map_some g (Some x) y e = (x, refl, same_Some (g x) y e)

found_at : {A : Type 0} (p : A → Bool) (xs : List A) (x : A) → find p xs ≡ Some x → (k : ℕ) × (slice_get xs k ≡ Some x) × (p x ≡ true)
found_at p [] x e = absurd cc
found_at {A} p (y ∷ ys) x e = step (p y) refl (found_at p ys x) e where
  step : (b : Bool) → p y ≡ b → (find p ys ≡ Some x → (k : ℕ) × (slice_get ys k ≡ Some x) × (p x ≡ true)) → cond b (Some y) (find p ys) ≡ Some x → (k : ℕ) × (slice_get (y ∷ ys) k ≡ Some x) × (p x ≡ true)
  step true q later is = (0, is, subst (λ (z : A). p z ≡ true) (same_Some y x is) q)
  step false q later is = let r = later is in (suc r.0, r.1, r.2)

both_tests : (a b : Bool) → (if a then b else false) ≡ true → b ≡ true
both_tests true b e = e
both_tests false b e = absurd cc

-- a rectangle that a layout takes is that of one of the leaf's pins on the metal
pub record IsFoundPin (kit : Kit) (is : IsKit kit) (role : Role) (metal : ℕ) (r : Rect) : Type 0 where
  pub leaf : Leaf
  pub there : leaf_in kit.leaves role ≡ Some leaf
  pub demand : PinDemand
  pub pin : LeafPin
  pub at : IsPinAt kit is role leaf there demand pin
  pub rect : pin.rect ≡ r
  pub on : pin.layer ≡ slice_index is.wire.metals metal

pub found_pin : (kit : Kit) (is : IsKit kit) (role : Role) (port metal : ℕ) (r : Rect) → pin_shape kit role port metal ≡ Some r → IsFoundPin kit is role metal r
found_pin kit is role port metal r e =
    let named = then_some (λ (name : List ℕ). option_and_then (pin_rect (leaf_in kit.leaves role) name) (layer_of_metal kit.tech.wire metal)) (port_name role port) r e in
    let layered = then_some (pin_rect (leaf_in kit.leaves role) named.0) (layer_of_metal kit.tech.wire metal) r named.2 in
    let leafed = then_some (λ (l : Leaf). option_map (λ (p : LeafPin). p.rect) (pin_on l.pins named.0 layered.0)) (leaf_in kit.leaves role) r layered.2 in
    let pinned = map_some (λ (p : LeafPin). p.rect) (pin_on leafed.0.pins named.0 layered.0) r leafed.2 in
    let found = found_at (λ (p : LeafPin). if bytes_eq p.pin named.0 then p.layer == layered.0 else false) leafed.0.pins pinned.0 pinned.1 in
    let at = pin_at kit is role leafed.0 leafed.1 found.0 pinned.0 found.1 in
    let on = (Decides-eqb pinned.0.layer layered.0).0 (both_tests (bytes_eq pinned.0.pin named.0) (pinned.0.layer == layered.0) found.2) in
    let layer : slice_get is.wire.metals metal ≡ Some layered.0 = ap (λ (w : Option Wire). layer_of_metal w metal) (sym is.wired) ∙ layered.1 in
    record { leaf = leafed.0; there = leafed.1; demand = at.0; pin = pinned.0; at = at.1; rect = pinned.2; on = on ∙ sym (get_or_from_slice_get is.wire.metals metal layered.0 0 layer) }

-- The cell's name

pub leaf_cell_is : (entries : List RoleName) (role : LeafRole) (cell : List ℕ) → cell_named_for entries role ≡ Some cell → named_cell entries (leaf_role_name role) ≡ cell
leaf_cell_is [] role cell e = absurd cc
leaf_cell_is (r ∷ rs) role cell e = step (bytes_eq r.role (leaf_role_name role)) (leaf_cell_is rs role cell) e where
  step : (b : Bool) → (cell_named_for rs role ≡ Some cell → named_cell rs (leaf_role_name role) ≡ cell) → option_map (λ (entry : RoleName). entry.cell) (cond b (Some r) (find (λ (entry : RoleName). bytes_eq entry.role (leaf_role_name role)) rs)) ≡ Some cell → (if b then r.cell else named_cell rs (leaf_role_name role)) ≡ cell
  step true later is = same_Some r.cell cell is
  step false later is = later is

pub cell_is : (entries : List RoleName) (role : Role) (cell : List ℕ) → cell_named_for entries (Common role) ≡ Some cell → cell_in entries role ≡ cell
cell_is entries role = leaf_cell_is entries (Common role)

-- what the cell draws on a metal lies in the leaf's sides
pub drawn_inside : (kit : Kit) (wire : Wire) (role : LeafRole) (w h : ℕ) → HasSides (source_of kit wire) role w h → (s : Shape) → IsFlatShape kit.tech.layers kit.lib.structs (named_cell kit.tech.roles (leaf_role_name role)) s → Contains wire.metals s.layer → LiesInCell w h s.rect
drawn_inside kit wire role w h l s flat metal =
    let plays = l.is.sized.flat in
    let named = leaf_cell_is kit.tech.roles role l.is.cell plays.plays in
    let listed = (plays.flat.shapes_exact s).1 (subst (λ (c : List ℕ). IsFlatShape kit.tech.layers kit.lib.structs c s) named flat) in
    shape_inside (source_of kit wire) role w h l s listed metal
