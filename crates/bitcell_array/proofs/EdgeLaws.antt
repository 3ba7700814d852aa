-- The pins of the bitcells at the sides of the array.
use Rattle.std.proofs.Common.{◌≡◌, ℕ, zero, suc, ◌+◌, ◌*◌, ◌<◌, ◌≤◌, ◌%◌, ◌==◌, ℤ, pos, negsuc, ◌+ℤ◌, ◌≤ℤ◌, List, [], ◌∷◌, drop, map, cond, Bool, true, false, Option, Some, None, refl, ap, sym, subst, ◌∙◌, arith}
use Rattle.std.specs.Prelude.{◌≢◌, slice_get, codes, option_map}
use Rattle.std.specs.List.{filter}
use Rattle.std.proofs.lemmas.Int.{ints}
use Rattle.or_geom.specs.declared.shape.Rect.{Rect}
use Rattle.cell_roles.specs.declared.role.Role.TheVariants.{Bitcell}
use Rattle.cell_roles.specs.declared.leaf_role.LeafRole.TheVariants.{Common}
use Rattle.or_geom.specs.declared.place.Place.{Place}
use Rattle.std.proofs.lemmas.Nat.{mul-le}
use Rattle.port_lists.proofs.TabulateLaws.{some_lines}
use Rattle.sram_netlist.specs.Organization.{Organization, columns_of, bank_rows, total_bits}
use Rattle.sram_netlist.specs.Names.{with_number}
use Rattle.sram_netlist.specs.InstanceList.{tabulate_lists}
use Rattle.sram_netlist.specs.BitCells.{BitCells}
use Rattle.sram_deck.specs.Deck.{row_bit}
use Rattle.leaf_shapes.specs.declared.pins.LeafPin.{LeafPin}
use Rattle.leaf_shapes.specs.Demands.{role_demands}
use Rattle.leaf_tables.specs.declared.kit.Leaf.{Leaf}
use Rattle.leaf_tables.specs.declared.kit.Kit.{Kit}
use Rattle.leaf_tables.specs.declared.part.Edge.{Edge}
use Rattle.leaf_tables.specs.Alignment.{leaf_in}
use Rattle.leaf_tables.specs.Leaves.{IsLeaf}
use Rattle.leaf_tables.specs.Kits.{IsKit, source_of}
use Rattle.port_lists.specs.Cells.{cell_in}
use Rattle.macro_layout.specs.Places.{drive_width, bit_width, bit_height, in_row_at, upright, mirrored_at}
use Rattle.floorplan.specs.LeafSides.{side_of}
use Rattle.floorplan.specs.LayoutOfKit.{layout_kit}
use Rattle.leaf_tables.proofs.RoleLaws.{near_in_kit}
use Rattle.part_edges.specs.PartPins.{PartPin, placed_pin, side_pins, pins_of_leaf, edge_of, ends_at, begins_at, AreInOrder}
use Rattle.part_edges.proofs.PinLaws.{pin_at, upright_pin, mirrored_pin, equal_numbers, other_numbers, both_pass, neither_passes, same_lists, no_lists, filter_lists, map_lists, only_last, only_first}
use Rattle.bitcell_array.specs.ArrayPart.{stored, array_height, bit_pins, array_pins}
use Rattle.bitcell_array.specs.Columns.{column_edges, AreBitLines, AreColumnEdges}

-- a bit line of the bitcell goes from its lower to its upper side
record IsBitLine (kit : Kit) (pin : LeafPin) : Type 0 where
  low : pin.rect.y1 ≡ pos 0
  high : pin.rect.y2 ≡ pos (bit_height (layout_kit kit))

height_number : (z : ℤ) → pos 0 ≤ℤ z → z ≡ pos (side_of (Some z))
height_number (pos n) above = refl
height_number (negsuc n) above = absurd (omega (arith, ints, above))

bit_height_is : (kit : Kit) (leaf : Leaf) → IsKit kit → leaf_in kit.leaves Bitcell ≡ Some leaf → leaf.height ≡ pos (bit_height (layout_kit kit))
bit_height_is kit leaf is there =
    height_number leaf.height (near_in_kit kit Bitcell leaf is there).height.above
    ∙ ap (λ (found : Option Leaf). pos (side_of (option_map (λ (l : Leaf). l.height) found))) (sym there)

bit_leaf : (kit : Kit) (leaf : Leaf) (is : IsKit kit) → leaf_in kit.leaves Bitcell ≡ Some leaf → IsLeaf (source_of kit is.wire) (Common Bitcell) leaf
bit_leaf kit leaf is there = is.leaves.each 0 Bitcell leaf refl there

left_line : (kit : Kit) (leaf : Leaf) (pin : LeafPin) → IsKit kit → leaf_in kit.leaves Bitcell ≡ Some leaf → slice_get leaf.pins 0 ≡ Some pin → IsBitLine kit pin
left_line kit leaf pin is there at =
    let fits = ((bit_leaf kit leaf is there).pins.each 0 _ pin refl at).is.has.1 in
    record { low = fits.1; high = fits.0 ∙ bit_height_is kit leaf is there }

right_line : (kit : Kit) (leaf : Leaf) (pin : LeafPin) → IsKit kit → leaf_in kit.leaves Bitcell ≡ Some leaf → slice_get leaf.pins 1 ≡ Some pin → IsBitLine kit pin
right_line kit leaf pin is there at =
    let fits = ((bit_leaf kit leaf is there).pins.each 1 _ pin refl at).is.has.1 in
    record { low = fits.1; high = fits.0 ∙ bit_height_is kit leaf is there }

-- where the pin of a bitcell in row r lies that begins at x
abbrev in_row : ℕ → List ℕ → ℕ → ℕ → Rect → PartPin
in_row high net r x rect = pin_at net (pos x +ℤ rect.x1) (pos (r * high)) (pos ((r + 1) * high))

pin_in_row : (kit : Kit) (net : List ℕ) (r x : ℕ) (pin : LeafPin) → IsBitLine kit pin → placed_pin net (in_row_at (layout_kit kit) (pos 0) r (pos x)) pin.rect ≡ in_row (bit_height (layout_kit kit)) net r x pin.rect
pin_in_row kit net r x pin is = by (r % 2 == 0) where
  high : ℕ
  high = bit_height (layout_kit kit)

  from : pos 0 +ℤ pos (r * high) ≡ pos (r * high)
  from = omega (arith, ints)

  to : pos (r * high) +ℤ pos high ≡ pos ((r + 1) * high)
  to = let e : (r + 1) * high ≡ r * high + high = omega arith in omega (arith, ints, e)

  up : pos 0 +ℤ pos ((r + 1) * high) ≡ pos (r * high) +ℤ pos high
  up = let e : (r + 1) * high ≡ r * high + high = omega arith in omega (arith, ints, e)

  by : (t : Bool) → placed_pin net (cond t (upright (pos x) (pos 0 +ℤ pos (r * high))) (mirrored_at (pos x) (pos 0 +ℤ pos ((r + 1) * high)))) pin.rect ≡ in_row high net r x pin.rect
  by true =
      let low = is.low in
      let top = is.high in
      let lower : (pos 0 +ℤ pos (r * high)) +ℤ pin.rect.y1 ≡ pos (r * high) = omega (arith, ints, low) in
      let upper : (pos 0 +ℤ pos (r * high)) +ℤ pin.rect.y2 ≡ pos ((r + 1) * high) = omega (arith, ints, top, to) in
      upright_pin net (pos x) (pos 0 +ℤ pos (r * high)) pin.rect ∙ (λ i. pin_at net (pos x +ℤ pin.rect.x1) (lower i) (upper i))
  by false =
      ap (λ (y : ℤ). placed_pin net (mirrored_at (pos x) y) pin.rect) up
      ∙ (mirrored_pin net (pos x) (pos (r * high)) (pos high) pin.rect is.low is.high ∙ ap (pin_at net (pos x +ℤ pin.rect.x1) (pos (r * high))) to)

-- the first two of a list
record BeginWith (all : List LeafPin) (left right : LeafPin) : Type 0 where
  rest : List LeafPin
  are : all ≡ left ∷ right ∷ rest

first_two : (all : List LeafPin) (left right : LeafPin) → slice_get all 0 ≡ Some left → slice_get all 1 ≡ Some right → BeginWith all left right
first_two [] left right one two = let e : None ≡ Some left = one in absurd (none_some left e) where
  none_some : (p : LeafPin) → None ≡ Some p → ⊥
  none_some p e = subst (λ (o : Option LeafPin). by o) e tt where
    by : Option LeafPin → Type 0
    by None = Unit {0}
    by (Some q) = ⊥
first_two (p ∷ []) left right one two = absurd (none_some right two) where
  none_some : (p : LeafPin) → None ≡ Some p → ⊥
  none_some p e = subst (λ (o : Option LeafPin). by o) e tt where
    by : Option LeafPin → Type 0
    by None = Unit {0}
    by (Some q) = ⊥
first_two (p ∷ q ∷ rest) left right one two = record { rest = rest; are = λ i. some_pin p (one i) ∷ some_pin q (two i) ∷ rest } where
  some_pin : LeafPin → Option LeafPin → LeafPin
  some_pin d None = d
  some_pin d (Some x) = x

-- the pins at the sides of a bitcell
no_more : (nets : List (List ℕ)) (place : Place) (rest : List LeafPin) → side_pins Bitcell nets place (drop 2 (role_demands Bitcell)) rest ≡ []
no_more nets place [] = refl
no_more nets place (p ∷ []) = refl
no_more nets place (p ∷ q ∷ []) = refl
no_more nets place (p ∷ q ∷ r ∷ rs) = refl

two_pins : (bits : BitCells) (r c : ℕ) (place : Place) (rest : List LeafPin) (left right : LeafPin)
    → side_pins Bitcell (row_bit bits r c).nodes place (role_demands Bitcell) (left ∷ right ∷ rest) ≡ placed_pin (with_number (codes "bl") c) place left.rect ∷ placed_pin (with_number (codes "br") c) place right.rect ∷ []
two_pins bits r c place rest left right = ap (λ (l : List PartPin). placed_pin (with_number (codes "bl") c) place left.rect ∷ placed_pin (with_number (codes "br") c) place right.rect ∷ l) (no_more (row_bit bits r c).nodes place rest)

-- the pins at the sides of the bitcell in row r and column c
abbrev made_pins : Kit → Organization → Rect → Rect → ℕ → ℕ → List PartPin
made_pins kit plan left right r c =
    in_row (bit_height (layout_kit kit)) (with_number (codes "bl") c) r (drive_width plan (layout_kit kit) + c * bit_width (layout_kit kit)) left
    ∷ in_row (bit_height (layout_kit kit)) (with_number (codes "br") c) r (drive_width plan (layout_kit kit) + c * bit_width (layout_kit kit)) right ∷ []

pins_are : (kit : Kit) (plan : Organization) (left right : LeafPin) → IsKit kit → AreBitLines kit left right → (r c : ℕ) → bit_pins kit plan r c ≡ made_pins kit plan left.rect right.rect r c
pins_are kit plan left right is of r c =
    let x = drive_width plan (layout_kit kit) + c * bit_width (layout_kit kit) in
    let place = in_row_at (layout_kit kit) (pos 0) r (pos x) in
    let bits = stored (cell_in kit.tech.roles) in
    let begin = first_two of.leaf.pins left right of.first of.second in
    let one = pin_in_row kit (with_number (codes "bl") c) r x left (left_line kit of.leaf left is of.is of.first) in
    let two = pin_in_row kit (with_number (codes "br") c) r x right (right_line kit of.leaf right is of.is of.second) in
    ap (λ (found : Option Leaf). side_pins Bitcell (row_bit bits r c).nodes place (role_demands Bitcell) (pins_of_leaf found)) of.is
    ∙ (ap (side_pins Bitcell (row_bit bits r c).nodes place (role_demands Bitcell)) begin.are
    ∙ (two_pins bits r c place begin.rest left right ∙ (λ i. one i ∷ two i ∷ [])))

-- the pins of all rows
all_are : (kit : Kit) (plan : Organization) (left right : LeafPin) → IsKit kit → AreBitLines kit left right
    → array_pins kit plan ≡ tabulate_lists (bank_rows plan) (λ r. tabulate_lists (columns_of plan) (made_pins kit plan left.rect right.rect r))
all_are kit plan left right is of =
    same_lists (bank_rows plan) _ _ (λ r _. same_lists (columns_of plan) _ _ (λ c _. pins_are kit plan left right is of r c))

abbrev pub edges_by : Kit → Organization → Rect → Rect → ℕ → List Edge
edges_by kit plan left right = column_edges (drive_width plan (layout_kit kit)) (bit_width (layout_kit kit)) left.x1 right.x1

-- of row r all pass, or none
row_passes : (kit : Kit) (plan : Organization) (left right : Rect) (p : PartPin → Bool) (r : ℕ) → ((net : List ℕ) (x : ℕ) (rect : Rect) → p (in_row (bit_height (layout_kit kit)) net r x rect) ≡ true)
    → map edge_of (filter p (tabulate_lists (columns_of plan) (made_pins kit plan left right r))) ≡ tabulate_lists (columns_of plan) (edges_by kit plan left right)
row_passes kit plan left right p r all =
    ap (map edge_of) (filter_lists p (columns_of plan) (made_pins kit plan left right r)
    ∙ same_lists (columns_of plan) _ _ (λ c _. both_pass p _ _ (all _ _ left) (all _ _ right)))
    ∙ map_lists edge_of (columns_of plan) (made_pins kit plan left right r)

row_fails : (kit : Kit) (plan : Organization) (left right : Rect) (p : PartPin → Bool) (r : ℕ) → ((net : List ℕ) (x : ℕ) (rect : Rect) → p (in_row (bit_height (layout_kit kit)) net r x rect) ≡ false)
    → filter p (tabulate_lists (columns_of plan) (made_pins kit plan left right r)) ≡ []
row_fails kit plan left right p r none =
    filter_lists p (columns_of plan) (made_pins kit plan left right r) ∙ no_lists (columns_of plan) _ (λ c _. neither_passes p _ _ (none _ _ left) (none _ _ right))

-- a row above or below ends, or begins, elsewhere
above_zero : (r high : ℕ) → 0 < r → 0 < high → 0 < r * high
above_zero zero high some tall = absurd (omega (arith, some))
above_zero (suc r) high some tall = let e : suc r * high ≡ high + r * high = omega arith in omega (arith, e, tall)

below_rows : (r n high : ℕ) → r < n → 0 < high → (r + 1) * high < (n + 1) * high
below_rows r n high lt tall =
    let le : (r + 1) * high ≤ n * high = mul-le (r + 1) high n high (omega (arith, lt)) (omega arith) in
    let e : (n + 1) * high ≡ n * high + high = omega arith in
    omega (arith, le, e, tall)

ends_elsewhere : (a b : ℕ) → a < b → pos a ≢ pos b
ends_elsewhere a b lt same = omega (arith, ints, lt, same)

begins_elsewhere : (a : ℕ) → 0 < a → pos a ≢ pos 0
begins_elsewhere a some same = omega (arith, ints, some, same)

zero_rows : (high : ℕ) → pos (0 * high) ≡ pos 0
zero_rows high = let e : 0 * high ≡ 0 = omega arith in ap pos e

-- at the top the last row, at the bottom the first
top_of : (kit : Kit) (plan : Organization) (left right : Rect) (n : ℕ) → 0 < bit_height (layout_kit kit)
    → map edge_of (filter (ends_at (pos (suc n * bit_height (layout_kit kit)))) (tabulate_lists (suc n) (λ r. tabulate_lists (columns_of plan) (made_pins kit plan left right r)))) ≡ tabulate_lists (columns_of plan) (edges_by kit plan left right)
top_of kit plan left right n tall =
    let high = bit_height (layout_kit kit) in
    let p = ends_at (pos (suc n * high)) in
    let e : suc n ≡ n + 1 = omega arith in
    ap (map edge_of) (filter_lists p (suc n) (λ r. tabulate_lists (columns_of plan) (made_pins kit plan left right r))
    ∙ only_last n _ (λ r lt. row_fails kit plan left right p r (λ net x rect. other_numbers _ _ (ends_elsewhere _ _ (subst (λ (m : ℕ). (r + 1) * high < m * high) (sym e) (below_rows r n high lt tall))))))
    ∙ row_passes kit plan left right p n (λ net x rect. equal_numbers _ _ (ap (λ (m : ℕ). pos (m * high)) (sym e)))

bottom_of : (kit : Kit) (plan : Organization) (left right : Rect) (n : ℕ) → 0 < bit_height (layout_kit kit)
    → map edge_of (filter (begins_at (pos 0)) (tabulate_lists (suc n) (λ r. tabulate_lists (columns_of plan) (made_pins kit plan left right r)))) ≡ tabulate_lists (columns_of plan) (edges_by kit plan left right)
bottom_of kit plan left right n tall =
    let p = begins_at (pos 0) in
    ap (map edge_of) (filter_lists p (suc n) (λ r. tabulate_lists (columns_of plan) (made_pins kit plan left right r))
    ∙ only_first n _ (λ r some lt. row_fails kit plan left right p r (λ net x rect. other_numbers _ _ (begins_elsewhere _ (above_zero r (bit_height (layout_kit kit)) some tall)))))
    ∙ row_passes kit plan left right p 0 (λ net x rect. equal_numbers (pos (0 * bit_height (layout_kit kit))) (pos 0) (zero_rows (bit_height (layout_kit kit))))

-- there is a row
record IsMore (n : ℕ) : Type 0 where
  before : ℕ
  is : n ≡ suc before

more_rows : (n : ℕ) → 0 < n → IsMore n
more_rows zero some = absurd (omega (arith, some))
more_rows (suc n) some = record { before = n; is = refl }

-- the edges at the top and at the bottom of the array
pub top_edges : (kit : Kit) (plan : Organization) (left right : LeafPin) → IsKit kit → AreBitLines kit left right → 0 < bit_height (layout_kit kit)
    → map edge_of (filter (ends_at (pos (array_height plan (layout_kit kit)))) (array_pins kit plan)) ≡ tabulate_lists (columns_of plan) (edges_by kit plan left.rect right.rect)
top_edges kit plan left right is of tall =
    let rows = more_rows (bank_rows plan) (some_lines (total_bits plan.groups)) in
    ap (λ (pins : List PartPin). map edge_of (filter (ends_at (pos (array_height plan (layout_kit kit)))) pins)) (all_are kit plan left right is of)
    ∙ (ap (λ (n : ℕ). map edge_of (filter (ends_at (pos (n * bit_height (layout_kit kit)))) (tabulate_lists n (λ r. tabulate_lists (columns_of plan) (made_pins kit plan left.rect right.rect r))))) rows.is
    ∙ top_of kit plan left.rect right.rect rows.before tall)

pub bottom_edges : (kit : Kit) (plan : Organization) (left right : LeafPin) → IsKit kit → AreBitLines kit left right → 0 < bit_height (layout_kit kit)
    → map edge_of (filter (begins_at (pos 0)) (array_pins kit plan)) ≡ tabulate_lists (columns_of plan) (edges_by kit plan left.rect right.rect)
bottom_edges kit plan left right is of tall =
    let rows = more_rows (bank_rows plan) (some_lines (total_bits plan.groups)) in
    ap (λ (pins : List PartPin). map edge_of (filter (begins_at (pos 0)) pins)) (all_are kit plan left right is of)
    ∙ (ap (λ (n : ℕ). map edge_of (filter (begins_at (pos 0)) (tabulate_lists n (λ r. tabulate_lists (columns_of plan) (made_pins kit plan left.rect right.rect r))))) rows.is
    ∙ bottom_of kit plan left.rect right.rect rows.before tall)

-- the edges of the columns are those at the top, and those at the bottom
pub top_in_order : (kit : Kit) (plan : Organization) → IsKit kit → 0 < bit_height (layout_kit kit) → (height : ℤ) (edges : List Edge) → height ≡ pos (array_height plan (layout_kit kit)) → AreColumnEdges kit plan edges
    → AreInOrder (map edge_of (filter (ends_at height) (array_pins kit plan))) edges
top_in_order kit plan is tall height edges high are =
    subst (λ (l : List Edge). AreInOrder l edges) (sym (ap (λ (y : ℤ). map edge_of (filter (ends_at y) (array_pins kit plan))) high ∙ top_edges kit plan are.left are.right is are.of tall)) are.are

pub bottom_in_order : (kit : Kit) (plan : Organization) → IsKit kit → 0 < bit_height (layout_kit kit) → (edges : List Edge) → AreColumnEdges kit plan edges
    → AreInOrder (map edge_of (filter (begins_at (pos 0)) (array_pins kit plan))) edges
bottom_in_order kit plan is tall edges are = subst (λ (l : List Edge). AreInOrder l edges) (sym (bottom_edges kit plan are.left are.right is are.of tall)) are.are
