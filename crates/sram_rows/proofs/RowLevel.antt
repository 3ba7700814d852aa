-- A row: what it flattens to, where its names are seen as the nets of row r of bank b.
use Rattle.std.proofs.Common.{◌≡◌, ◌⊎◌, inl, inr, ℕ, ◌<◌, ◌^◌, List, [], ◌∷◌, ◌++◌, map, length, Option, refl, sym, ap, ◌∙◌, arith}
use Rattle.std.specs.Prelude.{codes}
use Rattle.std.specs.List.{AllByRecursion}
use Rattle.std.proofs.lemmas.List.{map-append}
use Rattle.netlist.specs.declared.deck.Instance.{Instance}
use Rattle.spice_netlist.specs.declared.resolved.ResolvedSubckt.{ResolvedSubckt}
use Rattle.spice_text.specs.Words.{lower}
use Rattle.spice_netlist.specs.Resolved.{resolved_instance}
use Rattle.spice_netlist.specs.Walk.{visits_in, visits_by, FlatNet}
use Rattle.row_laws.specs.Flattens.{Flattens}
use Rattle.row_laws.proofs.FlatLaws.{flat_both, flat_each}
use Rattle.row_laws.proofs.LookLaws.{all_append}
use Rattle.sram_netlist.specs.Organization.{Organization, bank_rows, columns_of, IsBuildable}
use Rattle.sram_netlist.specs.Nets.{Net, Zb, Wl, Bl, Br}
use Rattle.sram_netlist.specs.Instances.{BitAt, NandAt, DriverAt}
use Rattle.cell_roles.specs.declared.role.Role.{Role}
use Rattle.cell_roles.specs.Roles.{role_ports, supplies}
use Rattle.sram_netlist.specs.Netlist.{row_gate, row_lines, wlen_at, supply_nets}
use Rattle.cell_roles.specs.declared.role.Role.TheVariants.{Driver}
use Rattle.sram_netlist.specs.Names.{with_number, full_name, to_row}
use Rattle.sram_netlist.specs.InstanceList.{numbers_from, tabulate, row_leaves}
use Rattle.sram_netlist.proofs.Bounds.{bounds}
use Rattle.sram_netlist.specs.BitCells.{BitCells}
use Rattle.sram_deck.specs.Deck.{row_inputs, row_bit, row_instances}
use Rattle.sram_rows.proofs.DigitLaws.{IsPlain, plain_all, plain_tail, plain_low}
use Rattle.sram_rows.proofs.Segments.{all_numbers}
use Rattle.sram_rows.proofs.LeafInstances.{HasLeaves, row_of, below, IsLeafOf, leaf_flat, by_name}

-- what is seen from the top of the names in a row
pub record RowSees (plan : Organization) (b r : ℕ) (see : FlatNet → List ℕ) : Type 0 where
  pub inputs : map (by_name see) (row_inputs 97 plan.groups) ≡ map (full_name plan) (row_lines plan.groups plan.col_bits r)
  pub wlen : by_name see (codes "wlen") ≡ full_name plan (wlen_at plan.bank_bits b)
  pub zb : by_name see (codes "zb") ≡ full_name plan (Zb b r)
  pub wl : by_name see (codes "wl") ≡ full_name plan (Wl b r)
  pub bl : (c : ℕ) → c < columns_of plan → by_name see (with_number (codes "bl") c) ≡ full_name plan (Bl b c)
  pub br : (c : ℕ) → c < columns_of plan → by_name see (with_number (codes "br") c) ≡ full_name plan (Br b c)
  pub vdd : by_name see (codes "vdd") ≡ codes "vdd"
  pub gnd : by_name see (codes "gnd") ≡ codes "gnd"

gate_sized : (groups : List ℕ) (o r : ℕ) (z : Net) → (length groups ≡ 2) ⊎ (length groups ≡ 3) → length (role_ports (row_gate groups)) ≡ length (row_lines groups o r ++ (z ∷ supply_nets))
gate_sized [] o r z (inl e) = absurd (omega (arith, e))
gate_sized [] o r z (inr e) = absurd (omega (arith, e))
gate_sized (a ∷ []) o r z (inl e) = absurd (omega (arith, e))
gate_sized (a ∷ []) o r z (inr e) = absurd (omega (arith, e))
gate_sized (a ∷ b ∷ []) o r z e = refl
gate_sized (a ∷ b ∷ c ∷ []) o r z e = refl
gate_sized (a ∷ b ∷ c ∷ d ∷ ds) o r z (inl e) = absurd (omega (arith, e))
gate_sized (a ∷ b ∷ c ∷ d ∷ ds) o r z (inr e) = absurd (omega (arith, e))

pub inputs_plain : (groups : List ℕ) → (length groups ≡ 2) ⊎ (length groups ≡ 3) → AllByRecursion IsPlain (row_inputs 97 groups)
inputs_plain [] e = tt
inputs_plain (a ∷ []) e = (refl, tt)
inputs_plain (a ∷ b ∷ []) e = (refl, (refl, tt))
inputs_plain (a ∷ b ∷ c ∷ []) e = (refl, (refl, (refl, tt)))
inputs_plain (a ∷ b ∷ c ∷ d ∷ ds) (inl e) = absurd (omega (arith, e))
inputs_plain (a ∷ b ∷ c ∷ d ∷ ds) (inr e) = absurd (omega (arith, e))

module _ (plan : Organization) (p : IsBuildable plan) (cell : Role → List ℕ) (bits : BitCells) (subckts : List ResolvedSubckt) (find : List ℕ → Option ℕ) (leaf : HasLeaves plan cell bits subckts find) (d b r : ℕ) (lt_r : r < bank_rows plan) (see : FlatNet → List ℕ) (s : RowSees plan b r see) where
  few : (c : ℕ) → c < columns_of plan → c < 2 ^ 64
  few c lt = let e = (bounds plan p).columns in omega (arith, e, lt)

  bit_is : (c : ℕ) → c < columns_of plan → IsLeafOf plan cell bits (to_row plan b r) see (row_bit bits r c) (BitAt b r c)
  bit_is c lt =
      let l = plain_tail c (few c lt) [] refl in
      let xb : lower (with_number (codes "xb") c) ≡ with_number (codes "xb") c = plain_low _ l in
      let bl : lower (with_number (codes "bl") c) ≡ with_number (codes "bl") c = plain_low _ l in
      let br : lower (with_number (codes "br") c) ≡ with_number (codes "br") c = plain_low _ l in
      record {
        of = refl;
        named = xb;
        there = refl;
        nets = λ i. (ap (by_name see) bl ∙ s.bl c lt) i ∷ (ap (by_name see) br ∙ s.br c lt) i ∷ s.wl i ∷ s.vdd i ∷ s.gnd i ∷ [];
        sized = refl;
      }

  nand_is : IsLeafOf plan cell bits (to_row plan b r) see (record { name = codes "xnand"; nodes = row_inputs 97 plan.groups ++ (codes "zb" ∷ supplies); of = cell (row_gate plan.groups) }) (NandAt b r)
  nand_is =
      let lowered : map lower (row_inputs 97 plan.groups ++ (codes "zb" ∷ supplies)) ≡ row_inputs 97 plan.groups ++ (codes "zb" ∷ supplies) =
      plain_all (row_inputs 97 plan.groups ++ (codes "zb" ∷ supplies)) (all_append IsPlain (row_inputs 97 plan.groups) (codes "zb" ∷ supplies) (inputs_plain plan.groups p.groups) (refl, (refl, (refl, tt)))) in
      record {
        of = refl;
        named = refl;
        there = refl;
        nets =
            ap (map (by_name see)) lowered ∙ map-append (by_name see) (row_inputs 97 plan.groups) (codes "zb" ∷ supplies)
            ∙ (λ i. s.inputs i ++ (s.zb i ∷ s.vdd i ∷ s.gnd i ∷ []))
            ∙ sym (map-append (full_name plan) (row_lines plan.groups plan.col_bits r) (Zb b r ∷ supply_nets));
        sized = gate_sized plan.groups plan.col_bits r (Zb b r) p.groups;
      }

  driver_is : IsLeafOf plan cell bits (to_row plan b r) see (record { name = codes "xdrv"; nodes = codes "zb" ∷ codes "wlen" ∷ codes "wl" ∷ supplies; of = cell Driver }) (DriverAt b r)
  driver_is = record { of = refl; named = refl; there = refl; nets = λ i. s.zb i ∷ s.wlen i ∷ s.wl i ∷ s.vdd i ∷ s.gnd i ∷ []; sized = refl }

  -- the row's rows
  pub row_flat : Flattens (row_of plan cell bits) subckts (to_row plan b r) see (visits_by subckts (below subckts d) (map (resolved_instance find) (row_instances plan cell bits r))) (row_leaves plan b r)
  row_flat =
      let f = below subckts d in
      let nand : Instance = record { name = codes "xnand"; nodes = row_inputs 97 plan.groups ++ (codes "zb" ∷ supplies); of = cell (row_gate plan.groups) } in
      let driver : Instance = record { name = codes "xdrv"; nodes = codes "zb" ∷ codes "wlen" ∷ codes "wl" ∷ supplies; of = cell Driver } in
      let columns = visits_by subckts f (map (resolved_instance find) (tabulate (columns_of plan) (row_bit bits r))) in
      let items = tabulate (columns_of plan) (BitAt b r) in
      flat_both (row_of plan cell bits) subckts (to_row plan b r) see (visits_in subckts f (resolved_instance find nand) (resolved_instance find nand).index) (visits_in subckts f (resolved_instance find driver) (resolved_instance find driver).index ++ columns) (NandAt b r ∷ []) (DriverAt b r ∷ items)
      (leaf_flat plan cell bits subckts find d (to_row plan b r) see nand (NandAt b r) (leaf.role_cell (row_gate plan.groups)) nand_is)
      (flat_both (row_of plan cell bits) subckts (to_row plan b r) see (visits_in subckts f (resolved_instance find driver) (resolved_instance find driver).index) columns (DriverAt b r ∷ []) items
      (leaf_flat plan cell bits subckts find d (to_row plan b r) see driver (DriverAt b r) (leaf.role_cell Driver) driver_is)
      (flat_each (row_of plan cell bits) subckts (to_row plan b r) see f (resolved_instance find) (row_bit bits r) (BitAt b r) (numbers_from 0 (columns_of plan))
      (all_numbers (λ c. Flattens (row_of plan cell bits) subckts (to_row plan b r) see (visits_in subckts f (resolved_instance find (row_bit bits r c)) (resolved_instance find (row_bit bits r c)).index) (BitAt b r c ∷ [])) 0 (columns_of plan)
      (λ c from lt. leaf_flat plan cell bits subckts find d (to_row plan b r) see (row_bit bits r c) (BitAt b r c) (leaf.bit r c lt_r (omega arith)) (bit_is c (omega arith))))))
