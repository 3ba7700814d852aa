-- The boundaries of the kit stand as they are written.
use Rattle.std.proofs.Common.{◌≡◌, ℕ, suc, ◌≤◌, ℤ, pos, ◌<ℤ◌, List, [], ◌∷◌, ◌++◌, map, take, drop, Bool, true, false, not, ◌&&◌, cond, refl, ap, ◌∙◌, arith}
use Rattle.std.proofs.lemmas.Int.{ints}
use Rattle.std.specs.Prelude.{codes}
use Rattle.std.specs.List.{AllByRecursion}
use Rattle.or_geom.specs.declared.shape.Point.{Point}
use Rattle.or_geom.specs.declared.shape.Rect.{Rect}
use Rattle.gds_library.specs.declared.library.Element.TheVariants.{Boundary}
use Rattle.gds_stream.specs.Turned.{is_lower, is_lowest, lowest_index, from_lowest, goes_right, other_way, turned_ring, turned_element, turned_structure, turned_library}
use Rattle.cell_roles.specs.declared.role.Role.{Role}
use Rattle.cell_roles.specs.Roles.{all_roles}
use Rattle.demo_kit.specs.declared.drawing.CellBox.{CellBox}
use Rattle.demo_kit.specs.Layers.{demo_layer_number}
use Rattle.demo_kit.specs.CellNames.{demo_cell_name}
use Rattle.demo_kit.specs.Layout.{box_boundary, cell_elements, cell_structure, demo_library}
use Rattle.demo_kit.proofs.BoxLaws.{is_proper, proper_is, scaled_rect, all_elements}
use Rattle.demo_kit.proofs.RingLaws.{ring}

abbrev at : ℤ → ℤ → Point
at across up = record { x = across; y = up }

right_not_lower : (x z y : ℤ) → x <ℤ z → is_lower (at z y) (at x y) ≡ false
right_not_lower x z y lt = grind (arith, ints, lt)

higher_not_lower : (x z y v : ℤ) → y <ℤ v → is_lower (at z v) (at x y) ≡ false
higher_not_lower x z y v lt = grind (arith, ints, lt)

begins_lowest : (r : Rect) → is_lowest (at r.x1 r.y1) (at r.x2 r.y1 ∷ at r.x2 r.y2 ∷ at r.x1 r.y2 ∷ []) ≡ true
begins_lowest r =
    let a = right_not_lower r.x1 r.x2 r.y1 r.wide in
    let b = higher_not_lower r.x1 r.x2 r.y1 r.y2 r.tall in
    let c = higher_not_lower r.x1 r.x1 r.y1 r.y2 r.tall in
    λ i. not (a i) && (not (b i) && (not (c i) && true))

is_first : (r : Rect) → lowest_index (ring r) ≡ 0
is_first r =
    let others = at r.x2 r.y1 ∷ at r.x2 r.y2 ∷ at r.x1 r.y2 ∷ [] in
    ap (λ (b : Bool). cond b 0 (suc (lowest_index others))) (begins_lowest r)

rightward : (r : Rect) → goes_right (ring r) ≡ true
rightward r = let wide = r.wide in grind (arith, ints, wide)

begins_there : (r : Rect) → from_lowest (ring r) ≡ ring r
begins_there r = ap (λ (k : ℕ). drop k (ring r) ++ take k (ring r)) (is_first r)

pub ring_stands : (r : Rect) → turned_ring (ring r) ≡ ring r
ring_stands r =
    ap (λ (corners : List Point). cond (goes_right corners) corners (other_way corners)) (begins_there r)
    ∙ ap (λ (b : Bool). cond b (ring r) (other_way (ring r))) (rightward r)

boundary_stands : (scale : ℕ) → 1 ≤ scale → (b : CellBox) → is_proper b ≡ true
    → turned_element (box_boundary scale b) ≡ box_boundary scale b
boundary_stands scale some b e =
    ap (λ (corners : List Point). Boundary (pos (demo_layer_number b.layer)) (pos 0) corners [])
    (ring_stands (scaled_rect scale some b (proper_is b e)))

map_kept : {X : Type 0} (f : X → X) (xs : List X) → AllByRecursion (λ x. f x ≡ x) xs → map f xs ≡ xs
map_kept f [] h = refl
map_kept f (x ∷ xs) h = λ i. h.0 i ∷ map_kept f xs h.1 i

elements_stand : (scale : ℕ) → 1 ≤ scale → (role : Role)
    → map turned_element (cell_elements scale role) ≡ cell_elements scale role
elements_stand scale some role =
    map_kept turned_element (cell_elements scale role)
    (all_elements (λ e. turned_element e ≡ e) scale (boundary_stands scale some) (λ p e. refl) role)

structure_stands : (scale : ℕ) → 1 ≤ scale → (role : Role)
    → turned_structure (cell_structure scale role) ≡ cell_structure scale role
unfolding cell_structure
structure_stands scale some role =
    λ i. record { name = demo_cell_name role; elements = elements_stand scale some role i }

structures_stand : (scale : ℕ) → 1 ≤ scale → (roles : List Role)
    → map turned_structure (map (cell_structure scale) roles) ≡ map (cell_structure scale) roles
structures_stand scale some [] = refl
structures_stand scale some (role ∷ roles) =
    λ i. structure_stands scale some role i ∷ structures_stand scale some roles i

-- the kit is written as it stands
pub library_stands : (scale : ℕ) → 1 ≤ scale → turned_library (demo_library scale) ≡ demo_library scale
unfolding demo_library
library_stands scale some = λ i. record { name = codes "demo_tech"; structs = structures_stand scale some all_roles i }
