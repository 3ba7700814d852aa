-- Leaf cells that are enough: the cells of all roles, and further ones that bits are of.
use Rattle.std.proofs.Common.{◌≡◌, ◌⊎◌, inl, inr, ℕ, ◌<◌, List, [], ◌++◌, map, None, Some, arith, refl}
use Rattle.std.specs.Prelude.{Contains}
use Rattle.std.specs.List.{AllByRecursion}
use Rattle.std.proofs.lemmas.List.Elements.{Contains-append_left, Contains-append_right, Contains-append_cases}
use Rattle.or_geom.proofs.ListLaws.{contains_none, contains_map, all_contained}
use Rattle.netlist.specs.declared.deck.Subckt.{Subckt}
use Rattle.spice_text.specs.Words.{lower}
use Rattle.spice_netlist.specs.Names.{index_of}
use Rattle.spice_netlist.specs.Resolved.{names_of}
use Rattle.row_laws.proofs.LookLaws.{all_map, all_any}
use Rattle.cell_roles.specs.declared.role.Role.{Role}
use Rattle.cell_roles.specs.declared.role.Role.TheVariants.{Bitcell, Precharge, Mux, Tie, Sense, Write, RowNand2, RowNand3, Driver, Nand2, Nand3, Inv, Dff, Delay}
use Rattle.cell_roles.specs.Roles.{all_roles}
use Rattle.sram_netlist.specs.Organization.{Organization, bank_rows, columns_of}
use Rattle.sram_netlist.specs.BitCells.{BitCells, Alike, Apart}
use Rattle.sram_deck.specs.Deck.{written_subckts}
use Rattle.sram_rows.specs.Rows.{HasCellOf, HasRoleCell, AreLeavesFor}

role_among : (r : Role) → Contains all_roles r
role_among Bitcell = (0, omega arith, refl)
role_among Precharge = (1, omega arith, refl)
role_among Mux = (2, omega arith, refl)
role_among Tie = (3, omega arith, refl)
role_among Sense = (4, omega arith, refl)
role_among Write = (5, omega arith, refl)
role_among RowNand2 = (6, omega arith, refl)
role_among RowNand3 = (7, omega arith, refl)
role_among Driver = (8, omega arith, refl)
role_among Nand2 = (9, omega arith, refl)
role_among Nand3 = (10, omega arith, refl)
role_among Inv = (11, omega arith, refl)
role_among Dff = (12, omega arith, refl)
role_among Delay = (13, omega arith, refl)

-- each role's cell ends a walk
role_ended : (cell : Role → List ℕ) (more : List (List ℕ)) (r : Role) → Contains (map cell all_roles ++ more) (cell r)
role_ended cell more r = Contains-append_left (map cell all_roles) more (cell r) (contains_map cell all_roles r (role_among r))

-- a leaf cell of this name is there
abbrev IsKnown : List Subckt → List ℕ → Type 0
IsKnown leaves name = (k : ℕ) × (index_of (names_of leaves) (lower name) ≡ Some k)

-- all cells that end a walk are there, if the further ones are
ends_known : (leaves : List Subckt) (cell : Role → List ℕ) (more : List (List ℕ)) → ((r : Role) → HasRoleCell leaves cell r) → ((name : List ℕ) → Contains more name → IsKnown leaves name)
    → (name : List ℕ) → Contains (map cell all_roles ++ more) name → IsKnown leaves name
ends_known leaves cell more roles known name there = by (Contains-append_cases (map cell all_roles) more name there)
  where
    by : Contains (map cell all_roles) name ⊎ Contains more name → IsKnown leaves name
    by (inl of_role) = all_contained (IsKnown leaves) (map cell all_roles) name (all_map (IsKnown leaves) cell all_roles (all_any (λ r. IsKnown leaves (cell r)) all_roles (λ r. ((roles r).index, (roles r).there)))) of_role
    by (inr further) = known name further

-- none of the leaves has a name that will be written
abbrev pub AreFree : Organization → (Role → List ℕ) → BitCells → List Subckt → List ℕ → Type 0
AreFree plan cell bits leaves n = AllByRecursion (λ name. index_of (names_of leaves) name ≡ None) (names_of (written_subckts plan cell bits n))

-- where all bits are of the bitcell, each role's cell is enough
pub alike_leaves : (plan : Organization) (cell : Role → List ℕ) (leaves : List Subckt) (n : List ℕ) → ((r : Role) → HasRoleCell leaves cell r) → AreFree plan cell (Alike (cell Bitcell)) leaves n
    → AreLeavesFor plan cell (Alike (cell Bitcell)) (map cell all_roles) leaves n
alike_leaves plan cell leaves n roles free = record {
  roles = roles;
  ended = role_ended cell [];
  of_bits = λ r c lt_r lt_c. record { is = roles Bitcell; ends_there = role_ended cell [] Bitcell };
  known = ends_known leaves cell [] roles (λ name there. absurd (contains_none name there));
  free = free;
}

-- where bits are of further cells, each with the ports of a bitcell
pub apart_leaves : (plan : Organization) (cell : Role → List ℕ) (names : ℕ → ℕ → List ℕ) (more : List (List ℕ)) (leaves : List Subckt) (n : List ℕ) → ((r : Role) → HasRoleCell leaves cell r)
    → ((name : List ℕ) → Contains more name → HasCellOf leaves name Bitcell) → ((r c : ℕ) → r < bank_rows plan → c < columns_of plan → Contains more (names r c)) → AreFree plan cell (Apart names) leaves n
    → AreLeavesFor plan cell (Apart names) (map cell all_roles ++ more) leaves n
apart_leaves plan cell names more leaves n roles has among free = record {
  roles = roles;
  ended = role_ended cell more;
  of_bits = λ r c lt_r lt_c. let there = among r c lt_r lt_c in record { is = has (names r c) there; ends_there = Contains-append_right (map cell all_roles) more (names r c) there };
  known = ends_known leaves cell more roles (λ name there. ((has name there).index, (has name there).there));
  free = free;
}
