-- A plan and leaf cells.
use Rattle.std.proofs.Common.{inl, inr, ℕ, List, [], ◌∷◌, refl, arith}
use Rattle.std.specs.Prelude.{codes, map}
use Rattle.netlist.specs.declared.deck.Subckt.{Subckt}
use Rattle.sram_netlist.specs.Organization.{Organization, IsBuildable}
use Rattle.cell_roles.specs.declared.role.Role.{Role}
use Rattle.cell_roles.specs.Roles.{all_roles, role_ports}
use Rattle.cell_roles.specs.declared.role.Role.TheVariants.{Bitcell, Precharge, Mux, Tie, Sense, Write, RowNand2, RowNand3, Driver, Nand2, Nand3, Inv, Dff, Delay}
use Rattle.sram_deck.specs.Deck.{made_subckt}
use Rattle.sram_netlist.specs.BitCells.{Alike}
use Rattle.sram_rows.specs.Rows.{HasRoleCell, SomeAreLeavesFor}
use Rattle.sram_rows.proofs.LeafEnds.{alike_leaves}

abbrev cell : Role → List ℕ
cell Bitcell = codes "Demo_bitcell"
cell Precharge = codes "Demo_precharge"
cell Mux = codes "Demo_mux"
cell Tie = codes "Demo_tie"
cell Sense = codes "Demo_sense"
cell Write = codes "Demo_write"
cell RowNand2 = codes "Demo_rownand2"
cell RowNand3 = codes "Demo_rownand3"
cell Driver = codes "Demo_driver"
cell Nand2 = codes "Demo_nand2"
cell Nand3 = codes "Demo_nand3"
cell Inv = codes "Demo_inv"
cell Dff = codes "Demo_dff"
cell Delay = codes "Demo_delay"

abbrev leaf : Role → Subckt
leaf r = made_subckt (cell r) (role_ports r) []

abbrev leaves : List Subckt
leaves = map leaf all_roles

abbrev plan : Organization
plan = record { word_size = 2; write_size = 1; masks = 2; bank_bits = 1; col_bits = 1; groups = 2 ∷ 2 ∷ [] }

is_plan : IsBuildable plan
is_plan = record {
  words = omega arith;
  rows = omega arith;
  columns = omega arith;
  banks = omega arith;
  choices = omega arith;
  sizes = (inl refl, (inl refl, tt));
  groups = inl refl;
  masks = inr (omega arith, refl);
}

has_role : (r : Role) → HasRoleCell leaves cell r
has_role Bitcell = record { index = 0; there = refl; ported = refl }
has_role Precharge = record { index = 1; there = refl; ported = refl }
has_role Mux = record { index = 2; there = refl; ported = refl }
has_role Tie = record { index = 3; there = refl; ported = refl }
has_role Sense = record { index = 4; there = refl; ported = refl }
has_role Write = record { index = 5; there = refl; ported = refl }
has_role RowNand2 = record { index = 6; there = refl; ported = refl }
has_role RowNand3 = record { index = 7; there = refl; ported = refl }
has_role Driver = record { index = 8; there = refl; ported = refl }
has_role Nand2 = record { index = 9; there = refl; ported = refl }
has_role Nand3 = record { index = 10; there = refl; ported = refl }
has_role Inv = record { index = 11; there = refl; ported = refl }
has_role Dff = record { index = 12; there = refl; ported = refl }
has_role Delay = record { index = 13; there = refl; ported = refl }

pub premises : SomeAreLeavesFor
premises = record {
  plan = plan;
  cell = cell;
  bits = Alike (cell Bitcell);
  ends = map cell all_roles;
  leaves = leaves;
  name = codes "Memory";
  is_buildable = is_plan;
  are_leaves = alike_leaves plan cell leaves (codes "Memory") has_role (refl, (refl, (refl, (refl, (refl, (refl, (refl, tt)))))));
}
