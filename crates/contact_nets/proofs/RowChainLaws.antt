-- Chains of references lead to the other leaf instances of a drawn macro: those of columns' ends, of the logic row and of rows.
use Rattle.std.proofs.Common.{◌≡◌, ◌∙◌, Bool, true, false, ℕ, suc, ◌+◌, ◌*◌, ◌%◌, ◌<◌, ℤ, pos, ◌+ℤ◌, ◌-ℤ◌, ◌*ℤ◌, List, [], ◌∷◌, ◌++◌, Contains, Some, length, refl, sym, ap, subst, arith}
use Rattle.std.specs.Prelude.{slice_get, cond, ◌==◌}
use Rattle.std.proofs.lemmas.Int.{ints}
use Rattle.or_geom.specs.declared.shape.Point.{Point}
use Rattle.or_geom.specs.declared.place.Place.{Place}
use Rattle.or_geom.specs.Place.{placed}
use Rattle.gds_library.specs.declared.library.Structure.{Structure}
use Rattle.cell_roles.specs.declared.role.Role.TheVariants.{Bitcell, Driver}
use Rattle.tech_rules.specs.declared.tech.Layer.{Layer}
use Rattle.cell_builder.specs.declared.cell.PlacedInstance.{PlacedInstance}
use Rattle.cell_builder.specs.Flat.{IsDrawn}
use Rattle.sram_netlist.specs.Organization.{Organization, banks_of, bank_rows, columns_of}
use Rattle.sram_netlist.specs.Instances.{LogicCell, LeafInstance, BitAt, NandAt, DriverAt, LogicAt}
use Rattle.sram_netlist.specs.Netlist.{role}
use Rattle.sram_netlist.specs.Membership.{HasLeafInstance}
use Rattle.sram_netlist.specs.BitCells.{Alike, row_name, bit_cell}
use Rattle.macro_layout.specs.LayoutKit.{LayoutKit}
use Rattle.macro_layout.specs.Places.{Floorplan, upright, mirrored_at, in_row_at, bank_x, column_x, bit_width, gate_width, drive_width, total_width, IsPlaceOf}
use Rattle.macro_layout.specs.Cells.{leaf_in_cell, side_by_side, row_cell, row_at, row_gate_at, row_driver_at, row_bit_at, array_cell, array_at, data_cell, bank_cell, macro_cell, logic_row_cell, logic_at, bank_at}
use Rattle.macro_layout.specs.Layout.{Drawing, DrawsMacro}
use Rattle.macro_layout.proofs.BankLaws.{row_place}
use Rattle.contact_nets.proofs.ReferenceLaws.{reference_to, refers_to, made_at}
use Rattle.contact_nets.proofs.ChainLaws.{IsLedTo}

-- a place in a row, in its cell
inner_row : (t : Bool) (u low high x : ℤ) (p : Point) → placed (cond t (upright u low) (mirrored_at u high)) (placed (upright x (pos 0)) p) ≡ placed (cond t (upright (u +ℤ x) low) (mirrored_at (u +ℤ x) high)) p
inner_row true u low high x p = let h : (p.x +ℤ x) +ℤ u ≡ p.x +ℤ (u +ℤ x) = omega (arith, ints) in let v : (p.y +ℤ pos 0) +ℤ low ≡ p.y +ℤ low = omega (arith, ints) in λ i. record { x = h i; y = v i }
inner_row false u low high x p = let h : (p.x +ℤ x) +ℤ u ≡ p.x +ℤ (u +ℤ x) = omega (arith, ints) in ap (λ (q : Point). placed (mirrored_at u high) q) (by p) ∙ (λ i. record { x = h i; y = (placed (mirrored_at u high) (record { x = p.x; y = p.y })).y }) where
  by : (p : Point) → placed (upright x (pos 0)) p ≡ record { x = p.x +ℤ x; y = p.y }
  by p = let v : p.y +ℤ pos 0 ≡ p.y = omega (arith, ints) in λ i. record { x = p.x +ℤ x; y = v i }

-- where a cell of the logic row stands in its cell
pub side_at : (plan : Organization) (kit : LayoutKit) (before after : List LogicCell) (cell : LogicCell) (x : ℕ) → slice_get (side_by_side plan kit x (before ++ (cell ∷ after))) (length before) ≡ Some (leaf_in_cell plan kit (LogicAt cell) (pos (x + total_width plan kit before)) (pos 0))
side_at plan kit [] after cell x = ap (λ (z : ℕ). Some (leaf_in_cell plan kit (LogicAt cell) (pos z) (pos 0))) (omega arith)
side_at plan kit (c ∷ cs) after cell x = side_at plan kit cs after cell (x + kit.width (role plan (LogicAt c))) ∙ ap (λ (z : ℕ). Some (leaf_in_cell plan kit (LogicAt cell) (pos z) (pos 0))) (omega arith)

module _ (cells : List (List ℕ)) (layers : List Layer) (structs : List Structure) (plan : Organization) (kit : LayoutKit) (n : List ℕ) (d : Drawing) (draws : DrawsMacro layers structs plan kit n d) (no_macro : Contains cells n → ⊥)
    (no_bank : Contains cells (bank_cell plan kit d.floorplan n d.bank_wires).name → ⊥) (no_data : Contains cells (data_cell plan kit d.floorplan n).name → ⊥) (no_logic : Contains cells (logic_row_cell plan kit n).name → ⊥) where
  abbrev f : Floorplan
  f = d.floorplan

  unfoldable pub logic_led : (cell : LogicCell) (place : Place) → Contains cells (kit.cell (role plan (LogicAt cell))) → IsPlaceOf plan kit f (LogicAt cell) place → IsLedTo cells structs plan kit n (LogicAt cell) place
  logic_led cell place listed at = record {
    chain = reference_to 0 (logic_at f n) ∷ reference_to (length at.before) instance ∷ [];
    instance = (no_macro, refers_to layers structs (macro_cell plan f n d.wires d.labels) draws.macro 0 (logic_at f n) refl, (no_logic, refers_to layers structs (logic_row_cell plan kit n) draws.logic (length at.before) instance (subst (λ (cs : List LogicCell). slice_get (side_by_side plan kit 0 cs) (length at.before) ≡ Some instance) (sym at.row) (side_at plan kit at.before at.after cell 0)), (refl, listed)));
    point = λ p. both f.logic_x (total_width plan kit at.before) p ∙ ap (λ (q : Place). placed q p) (sym at.at);
  } where
    instance : PlacedInstance
    instance = leaf_in_cell plan kit (LogicAt cell) (pos (0 + total_width plan kit at.before)) (pos 0)

    both : (x : ℤ) (t : ℕ) (p : Point) → placed (upright x (pos 0)) (placed (upright (pos (0 + t)) (pos 0)) p) ≡ placed (upright (x +ℤ pos t) (pos 0)) p
    both x t p = let h : (p.x +ℤ pos (0 + t)) +ℤ x ≡ p.x +ℤ (x +ℤ pos t) = omega (arith, ints) in let v : (p.y +ℤ pos 0) +ℤ pos 0 ≡ p.y +ℤ pos 0 = omega (arith, ints) in λ i. record { x = h i; y = v i }

module _ (cells : List (List ℕ)) (layers : List Layer) (structs : List Structure) (plan : Organization) (kit : LayoutKit) (n : List ℕ) (d : Drawing) (draws : DrawsMacro layers structs plan kit n d) (rows : (r : ℕ) → r < bank_rows plan → IsDrawn layers structs (row_cell plan kit d.bits n r)) (no_macro : Contains cells n → ⊥)
    (no_bank : Contains cells (bank_cell plan kit d.floorplan n d.bank_wires).name → ⊥) (no_array : Contains cells (array_cell plan kit d.bits n).name → ⊥) (no_row : (r : ℕ) → Contains cells (row_name d.bits n r) → ⊥) where
  abbrev g : Floorplan
  g = d.floorplan

  pub row_point : (b r : ℕ) (x z : ℤ) (p : Point) → z ≡ (x +ℤ g.row_x) +ℤ (pos b *ℤ g.bank_width)
      → placed (upright (pos b *ℤ g.bank_width) g.write_y) (placed (upright g.row_x (g.array_y -ℤ g.write_y)) (placed (in_row_at kit (pos 0) r (pos 0)) (placed (upright x (pos 0)) p))) ≡ placed (in_row_at kit g.array_y r z) p
  row_point b r x z p e =
      let q = pos b *ℤ g.bank_width in
      let up = g.array_y -ℤ g.write_y in
      let inner : placed (in_row_at kit (pos 0) r (pos 0)) (placed (upright x (pos 0)) p) ≡ placed (in_row_at kit (pos 0) r (pos 0 +ℤ x)) p = inner_row (r % 2 == 0) (pos 0) (pos 0 +ℤ pos (r * kit.height Bitcell)) (pos 0 +ℤ pos ((r + 1) * kit.height Bitcell)) x p in
      let one = row_place kit r (pos 0 +ℤ x) (pos 0) g.row_x up p in
      let two = row_place kit r ((pos 0 +ℤ x) +ℤ g.row_x) (pos 0 +ℤ up) q g.write_y p in
      ap (λ (a : Point). placed (upright q g.write_y) (placed (upright g.row_x up) a)) inner ∙ ap (λ (a : Point). placed (upright q g.write_y) a) (sym one) ∙ sym two
      ∙ (λ i. placed (in_row_at kit (low g.array_y g.write_y i) r (right x g.row_x q z e i)) p)
    where
      low : (y w : ℤ) → (pos 0 +ℤ (y -ℤ w)) +ℤ w ≡ y
      low y w = omega (arith, ints)

      right : (x row q z : ℤ) → z ≡ (x +ℤ row) +ℤ q → ((pos 0 +ℤ x) +ℤ row) +ℤ q ≡ z
      right x row q z e = omega (arith, ints, e)

  unfoldable pub row_led : (b r k : ℕ) (x z : ℤ) (i : PlacedInstance) (leaf : LeafInstance) (place : Place) → b < banks_of plan → r < bank_rows plan → slice_get (row_cell plan kit d.bits n r).instances k ≡ Some i → i.place ≡ upright x (pos 0) → i.of ≡ kit.cell (role plan leaf) → Contains cells (kit.cell (role plan leaf))
      → place ≡ in_row_at kit g.array_y r z → z ≡ (x +ℤ g.row_x) +ℤ (pos b *ℤ g.bank_width) → IsLedTo cells structs plan kit n leaf place
  row_led b r k x z i leaf place lt few there at is listed stands e = record {
    chain = reference_to (suc b) (bank_at plan g n b) ∷ reference_to 0 (array_at g n) ∷ reference_to r (row_at kit d.bits n r) ∷ reference_to k i ∷ [];
    instance = (
      no_macro,
      refers_to layers structs (macro_cell plan g n d.wires d.labels) draws.macro (suc b) (bank_at plan g n b) (made_at (bank_at plan g n) (banks_of plan) b lt),
      (
        no_bank,
        refers_to layers structs (bank_cell plan kit g n d.bank_wires) draws.bank 0 (array_at g n) refl,
        (
          no_array,
          refers_to layers structs (array_cell plan kit d.bits n) draws.array r (row_at kit d.bits n r) (made_at (row_at kit d.bits n) (bank_rows plan) r few),
          (no_row r, refers_to layers structs (row_cell plan kit d.bits n r) (rows r few) k i there, (sym is, subst (Contains cells) (sym is) listed)),
        ),
      ),
    );
    point = λ p. ap (λ (q : Place). placed (upright (pos b *ℤ g.bank_width) g.write_y) (placed (upright g.row_x (g.array_y -ℤ g.write_y)) (placed (in_row_at kit (pos 0) r (pos 0)) (placed q p)))) at ∙ row_point b r x z p e ∙ ap (λ (q : Place). placed q p) (sym stands);
  }

  unfoldable pub gate_led : (b r : ℕ) (place : Place) → Contains cells (kit.cell (role plan (NandAt b r))) → HasLeafInstance plan (NandAt b r) → IsPlaceOf plan kit g (NandAt b r) place → IsLedTo cells structs plan kit n (NandAt b r) place
  gate_led b r place listed has at = row_led b r 0 (pos 0) (bank_x g b g.row_x) (row_gate_at plan kit) (NandAt b r) place has.0 has.1 refl refl refl listed at (go g.row_x (pos b *ℤ g.bank_width)) where
    go : (x q : ℤ) → x +ℤ q ≡ (pos 0 +ℤ x) +ℤ q
    go x q = omega (arith, ints)

  unfoldable pub driver_led : (b r : ℕ) (place : Place) → Contains cells (kit.cell Driver) → HasLeafInstance plan (DriverAt b r) → IsPlaceOf plan kit g (DriverAt b r) place → IsLedTo cells structs plan kit n (DriverAt b r) place
  driver_led b r place listed has at = row_led b r 1 (pos (gate_width plan kit)) (bank_x g b (g.row_x +ℤ pos (gate_width plan kit))) (row_driver_at plan kit) (DriverAt b r) place has.0 has.1 refl refl refl listed at (go g.row_x (pos (gate_width plan kit)) (pos b *ℤ g.bank_width)) where
    go : (x w q : ℤ) → (x +ℤ w) +ℤ q ≡ (w +ℤ x) +ℤ q
    go x w q = omega (arith, ints)

  unfoldable pub bit_led : (b r c : ℕ) (place : Place) → bit_cell d.bits r c ≡ kit.cell Bitcell → Contains cells (kit.cell Bitcell) → HasLeafInstance plan (BitAt b r c) → IsPlaceOf plan kit g (BitAt b r c) place → IsLedTo cells structs plan kit n (BitAt b r c) place
  bit_led b r c place same listed has at =
      row_led b r (suc (suc c)) (pos (drive_width plan kit + c * bit_width kit)) (bank_x g b (column_x plan kit g c)) (row_bit_at plan kit d.bits r c) (BitAt b r c) place has.0 has.1.0 (made_at (row_bit_at plan kit d.bits r) (columns_of plan) c has.1.1) refl same listed at
      (go g.row_x (drive_width plan kit) (c * bit_width kit) (pos b *ℤ g.bank_width))
    where
      go : (x : ℤ) (w c : ℕ) (q : ℤ) → ((x +ℤ pos w) +ℤ pos c) +ℤ q ≡ (pos (w + c) +ℤ x) +ℤ q
      go x w c q = omega (arith, ints)

-- Where the bits are alike, the cell of one row is that of each.
pub rows_alike : (layers : List Layer) (structs : List Structure) (plan : Organization) (kit : LayoutKit) (bit n : List ℕ) (r : ℕ) → IsDrawn layers structs (row_cell plan kit (Alike bit) n 0) → IsDrawn layers structs (row_cell plan kit (Alike bit) n r)
rows_alike layers structs plan kit bit n r drawn = drawn
