-- The precharge: what it flattens to, where its names are seen as the nets of bank b.
use Rattle.std.proofs.Common.{◌≡◌, ℕ, ◌<◌, List, [], ◌∷◌, ◌++◌, map, Option, refl, ap, ◌∙◌, arith}
use Rattle.std.specs.Prelude.{codes}
use Rattle.spice_netlist.specs.declared.resolved.ResolvedSubckt.{ResolvedSubckt}
use Rattle.spice_netlist.specs.Resolved.{resolved_instance}
use Rattle.spice_netlist.specs.Walk.{visits_in, visits_by, FlatNet}
use Rattle.row_laws.specs.Flattens.{Flattens}
use Rattle.row_laws.proofs.FlatLaws.{flat_each}
use Rattle.sram_netlist.specs.Organization.{Organization, columns_of, IsBuildable}
use Rattle.sram_netlist.specs.Nets.{Control, Clkb, Bl, Br}
use Rattle.sram_netlist.specs.Instances.{PrechargeAt}
use Rattle.cell_roles.specs.declared.role.Role.{Role}
use Rattle.cell_roles.specs.declared.role.Role.TheVariants.{Precharge}
use Rattle.sram_netlist.specs.Names.{with_number, full_name, to_bank}
use Rattle.sram_netlist.specs.InstanceList.{numbers_from, tabulate}
use Rattle.sram_netlist.specs.BitCells.{BitCells}
use Rattle.sram_deck.specs.Deck.{pre_column, pre_instances}
use Rattle.sram_rows.proofs.DigitLaws.{plain_tail, plain_low}
use Rattle.sram_rows.proofs.PlainNames.{few_columns, bl_plain, br_plain}
use Rattle.sram_rows.proofs.Segments.{all_numbers}
use Rattle.sram_rows.proofs.LeafInstances.{HasLeaves, row_of, below, IsLeafOf, leaf_flat, by_name}

-- what is seen from the top of the names in the precharge
pub record PreSees (plan : Organization) (b : ℕ) (see : FlatNet → List ℕ) : Type 0 where
  pub bl : (c : ℕ) → c < columns_of plan → by_name see (with_number (codes "bl") c) ≡ full_name plan (Bl b c)
  pub br : (c : ℕ) → c < columns_of plan → by_name see (with_number (codes "br") c) ≡ full_name plan (Br b c)
  pub clkb : by_name see (codes "clkb") ≡ full_name plan (Control Clkb)
  pub vdd : by_name see (codes "vdd") ≡ codes "vdd"
  pub gnd : by_name see (codes "gnd") ≡ codes "gnd"

abbrev pub to_pre : Organization → ℕ → List ℕ
to_pre plan b = to_bank plan b ++ (codes "xpre" ++ (47 ∷ []))

module _ (plan : Organization) (p : IsBuildable plan) (cell : Role → List ℕ) (bits : BitCells) (subckts : List ResolvedSubckt) (find : List ℕ → Option ℕ) (leaf : HasLeaves plan cell bits subckts find) (d b : ℕ) (see : FlatNet → List ℕ) (s : PreSees plan b see) where
  column_is : (c : ℕ) → c < columns_of plan → IsLeafOf plan cell bits (to_pre plan b) see (pre_column cell c) (PrechargeAt b c)
  column_is c lt =
      let l = plain_tail c (few_columns plan p c lt) [] refl in
      record {
        of = refl;
        named = plain_low _ l;
        there = refl;
        nets = λ i. (ap (by_name see) (plain_low _ (bl_plain plan p c lt)) ∙ s.bl c lt) i ∷ (ap (by_name see) (plain_low _ (br_plain plan p c lt)) ∙ s.br c lt) i ∷ s.clkb i ∷ s.vdd i ∷ s.gnd i ∷ [];
        sized = refl;
      }

  pub pre_flat : Flattens (row_of plan cell bits) subckts (to_pre plan b) see (visits_by subckts (below subckts d) (map (resolved_instance find) (pre_instances plan cell))) (tabulate (columns_of plan) (PrechargeAt b))
  pre_flat =
      flat_each (row_of plan cell bits) subckts (to_pre plan b) see (below subckts d) (resolved_instance find) (pre_column cell) (PrechargeAt b) (numbers_from 0 (columns_of plan))
      (all_numbers (λ c. Flattens (row_of plan cell bits) subckts (to_pre plan b) see (visits_in subckts (below subckts d) (resolved_instance find (pre_column cell c)) (resolved_instance find (pre_column cell c)).index) (PrechargeAt b c ∷ [])) 0 (columns_of plan)
      (λ c from lt. leaf_flat plan cell bits subckts find d (to_pre plan b) see (pre_column cell c) (PrechargeAt b c) (leaf.role_cell Precharge) (column_is c (omega arith))))
