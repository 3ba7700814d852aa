-- In a kit pins begin in their cells, and multiplexers and ties are as wide as bitcells.
use Rattle.std.proofs.Common.{◌≡◌, ℕ, suc, Bool, true, false, cond, List, [], ◌∷◌, Option, None, Some, refl, sym, ap, subst, ◌∙◌, arith}
use Rattle.std.specs.Prelude.{slice_get, option_map, option_and_then}
use Rattle.std.specs.List.{find}
use Rattle.std.proofs.lemmas.Int.{ints}
use Rattle.std.proofs.lemmas.Option.{same_Some}
use Rattle.or_geom.specs.declared.shape.Rect.{Rect}
use Rattle.cell_roles.specs.declared.role.Role.{Role}
use Rattle.leaf_shapes.specs.declared.pins.LeafPin.{LeafPin}
use Rattle.leaf_tables.specs.declared.kit.Kit.{Kit}
use Rattle.leaf_tables.specs.declared.kit.Leaf.{Leaf}
use Rattle.leaf_tables.specs.Alignment.{leaf_in}
use Rattle.leaf_tables.specs.Kits.{IsKit}
use Rattle.floorplan.specs.LeafSides.{side_of, leaf_width}
use Rattle.floorplan.specs.LayoutOfKit.{layout_kit, pin_on, port_name, layer_of_metal, pin_rect, pin_shape, shape_or_square}
use Rattle.floorplan.proofs.SideLaws.{width_is}
use Rattle.bank_layout.proofs.PinLaws.{inside_leaf}
use Rattle.spacing_laws.proofs.RepeatLaws.{IsInStep}
use Rattle.route_laws.proofs.ColumnLaws.{HasPinsInCells}
use Rattle.port_data.proofs.KitLaws.{leaf_exists}

-- what is found stands in the list
found_in : {X : Type 0} (test : X → Bool) (xs : List X) (x : X) → find test xs ≡ Some x → (k : ℕ) × (slice_get xs k ≡ Some x)
found_in test [] x e = let f : ◌≡◌ {A = Option _} None (Some x) = e in absurd cc
found_in {X} test (y ∷ xs) x e = by (test y) (λ (f : find test xs ≡ Some x). found_in test xs x f) e
  where
    by : (b : Bool) → (find test xs ≡ Some x → (k : ℕ) × (slice_get xs k ≡ Some x)) → cond b (Some y) (find test xs) ≡ Some x → (k : ℕ) × (slice_get (y ∷ xs) k ≡ Some x)
    by true later e = (0, e)
    by false later e = let r = later e in (suc r.0, r.1)

-- a shape's beginning lies in the step where it is some pin's, and else at 0
some_begin : (w : ℕ) (o : Option Rect) → ((r : Rect) → o ≡ Some r → IsInStep w r.x1) → IsInStep w (shape_or_square o).x1
some_begin w None of = record { above = omega (arith, ints); below = omega (arith, ints) }
some_begin w (Some r) of = of r refl

not_none : {A : Type 0} (B : Type 0) (x : A) → ◌≡◌ {A = Option A} None (Some x) → B
not_none B x e = absurd cc

pin_begins : (kit : Kit) → IsKit kit → (role : Role) (r : Rect) → (k : ℕ) → (leaf : Leaf) → leaf_in kit.leaves role ≡ Some leaf → (pin : LeafPin) → slice_get leaf.pins k ≡ Some pin → pin.rect ≡ r → IsInStep (leaf_width kit role) r.x1
pin_begins kit is role r k leaf there pin at same =
    let inside = inside_leaf kit role leaf k pin is there at in
    let left = inside.left in
    let right = inside.right in
    let wide = pin.rect.wide in
    let side = (width_is kit is role leaf there).is in
    subst (λ (q : Rect). IsInStep (leaf_width kit role) q.x1) same (record { above = left; below = omega (arith, ints, right, wide, side) })

named_begins : (kit : Kit) → IsKit kit → (role : Role) (name : List ℕ) (layer : Option ℕ) (r : Rect) → option_and_then (pin_rect (leaf_in kit.leaves role) name) layer ≡ Some r → IsInStep (leaf_width kit role) r.x1
named_begins kit is role name None r e = not_none (IsInStep (leaf_width kit role) r.x1) r e
named_begins kit is role name (Some layer) r e =
    let leaf = leaf_exists kit is role in
    by leaf.0 leaf.1 (pin_on leaf.0.pins name layer) refl (ap (λ (l : Option Leaf). pin_rect l name layer) (sym leaf.1) ∙ e)
  where
    by : (leaf : Leaf) → leaf_in kit.leaves role ≡ Some leaf → (o : Option LeafPin) → pin_on leaf.pins name layer ≡ o → option_map (λ (pin : LeafPin). pin.rect) o ≡ Some r → IsInStep (leaf_width kit role) r.x1
    by leaf there None is_found e = not_none (IsInStep (leaf_width kit role) r.x1) r e
    by leaf there (Some pin) is_found e =
        let at = found_in _ leaf.pins pin is_found in
        pin_begins kit is role r at.0 leaf there pin at.1 (same_Some pin.rect r e)

port_begins : (kit : Kit) → IsKit kit → (role : Role) (name : Option (List ℕ)) (metal : ℕ) (r : Rect)
    → option_and_then (λ (n : List ℕ). option_and_then (pin_rect (leaf_in kit.leaves role) n) (layer_of_metal kit.tech.wire metal)) name ≡ Some r → IsInStep (leaf_width kit role) r.x1
port_begins kit is role None metal r e = not_none (IsInStep (leaf_width kit role) r.x1) r e
port_begins kit is role (Some name) metal r e = named_begins kit is role name (layer_of_metal kit.tech.wire metal) r e

pub pins_in_cells : (kit : Kit) → IsKit kit → HasPinsInCells (layout_kit kit)
pins_in_cells kit is = record {
  begin = λ role port metal. some_begin (leaf_width kit role) (pin_shape kit role port metal) (λ r e. port_begins kit is role (port_name role port) metal r e);
  mux = ap side_of is.aligned.widths.1.0;
  tie = ap side_of is.aligned.widths.1.1.0;
}
