-- What assembling takes of the cells that hold the bits.
use Rattle.std.proofs.Common.{◌≡◌, inl, inr, ℕ, List, [], ◌∷◌, ◌++◌, map, Bool, true, false, None, Contains, refl, sym, subst}
use Rattle.std.specs.List.{AllByRecursion}
use Rattle.or_geom.proofs.ListLaws.{contains_none, contains_cases, contains_here, contains_later}
use Rattle.gds_library.specs.Writable.{IsText}
use Rattle.spice_text.specs.Words.{lower}
use Rattle.spice_netlist.specs.Names.{index_of}
use Rattle.spice_netlist.specs.Resolved.{names_of}
use Rattle.cell_roles.specs.declared.role.Role.{Role}
use Rattle.cell_roles.specs.declared.role.Role.TheVariants.{Bitcell}
use Rattle.cell_roles.specs.declared.leaf_role.LeafRole.{LeafRole}
use Rattle.cell_roles.specs.declared.leaf_role.LeafRole.TheVariants as leaf_role
use Rattle.sram_netlist.specs.Organization.{Organization, bank_rows}
use Rattle.sram_netlist.specs.Instances.{LeafInstance}
use Rattle.sram_netlist.specs.InstanceList.{numbers_from}
use Rattle.sram_netlist.specs.BitCells.{BitCells, bit_cell, fixed_bit, row_kinds, row_name}
use Rattle.sram_deck.specs.Deck.{row_subckt, other_subckts}
use Rattle.sram_rows.specs.Rows.{HasCellOf, AreLeavesFor}
use Rattle.sram_rows.proofs.LeafEnds.{AreFree, alike_leaves, apart_leaves}
use Rattle.port_lists.specs.Cells.{cell_in, fixed_cell_in}
use Rattle.port_lists.specs.Contents.{held_cells}
use Rattle.port_lists.specs.Held.{Held}
use Rattle.port_lists.specs.Held.Held.{Stored, Fixed}
use Rattle.leaf_tables.specs.declared.kit.Kit.{Kit}
use Rattle.leaf_tables.specs.Kits.{IsKit, source_of}
use Rattle.leaf_tables.specs.Leaves.{HasLeaf}
use Rattle.rom_leaves.specs.RomLeaves.{HasRomLeaves}
use Rattle.rom_leaves.proofs.RomLeafLaws.{leaves_are_leaves}
use Rattle.macro_layout.specs.Places.{leaf_cell}
use Rattle.macro_bounds.specs.Complete.{HasFlatLists, AreKitBits}
use Rattle.macro_bounds.specs.Differ.{other_names, macro_names}
use Rattle.macro_bounds.proofs.CompleteLaws.{leaf_cells_are_flat}
use Rattle.floorplan.specs.LayoutOfKit.{layout_kit}
use Rattle.sram_macro.specs.Leaves.{HasCellsFor, leaf_names}
use Rattle.sram_macro.specs.Names.{first_taken}
use Rattle.sram_macro.proofs.KitFacts.{cell_for, has_leaf, leaf_text, leaf_flat, leaf_subckt, none_known}

-- a fixed bit is of a leaf cell
fixed_leaf : (kit : Kit) (is : IsKit kit) → HasRomLeaves kit → (bit : Bool) → HasLeaf (source_of kit is.wire) (leaf_role.Fixed bit)
fixed_leaf kit is has bit = (has.leaf bit, leaves_are_leaves kit has is.wire is.wired bit)

-- the cell of a bit is that of a role
record IsBitLeaf (kit : Kit) (is : IsKit kit) (name : List ℕ) : Type 0 where
  role : LeafRole
  leaf : HasLeaf (source_of kit is.wire) role
  named : cell_for kit.tech.roles role ≡ name

bit_leaf : (kit : Kit) (is : IsKit kit) (plan : Organization) (held : Held) → HasCellsFor kit held → (r c : ℕ) → IsBitLeaf kit is (bit_cell (held_cells kit.tech.roles plan held) r c)
bit_leaf kit is plan Stored has r c = record { role = leaf_role.Common Bitcell; leaf = has_leaf kit is Bitcell; named = refl }
bit_leaf kit is plan (Fixed words) has r c = record { role = leaf_role.Fixed (fixed_bit plan words r c); leaf = fixed_leaf kit is has (fixed_bit plan words r c); named = refl }

-- So it can be written, and is drawn in the kit's library.
pub kit_bits : (kit : Kit) → IsKit kit → (plan : Organization) (held : Held) → HasCellsFor kit held → AreKitBits kit.tech.layers kit.lib.structs (held_cells kit.tech.roles plan held)
kit_bits kit is plan held has = record {
  names = λ r c. let b = bit_leaf kit is plan held has r c in subst IsText b.named (leaf_text kit is b.role b.leaf);
  flat = λ r c. let b = bit_leaf kit is plan held has r c in subst (HasFlatLists kit.tech.layers kit.lib.structs) b.named (leaf_flat kit is b.role b.leaf);
}

-- each leaf cell of a macro is
pub leaves_flat : (kit : Kit) → IsKit kit → (plan : Organization) (held : Held) → HasCellsFor kit held → (leaf : LeafInstance) → HasFlatLists kit.tech.layers kit.lib.structs (leaf_cell plan (layout_kit kit) (held_cells kit.tech.roles plan held) leaf)
leaves_flat kit is plan held has =
    leaf_cells_are_flat kit.tech.layers kit.lib.structs plan (layout_kit kit) (held_cells kit.tech.roles plan held) (kit_bits kit is plan held has) (λ (r : Role). leaf_flat kit is (leaf_role.Common r) (has_leaf kit is r))

-- The names of the written subcircuits are those of the macro's cells, in lower case.

rows_named : (plan : Organization) (cell : Role → List ℕ) (bits : BitCells) (n : List ℕ) (rows : List ℕ) → names_of (map (row_subckt plan cell bits n) rows ++ other_subckts plan cell bits n) ≡ map lower (map (row_name bits n) rows ++ other_names n)
rows_named plan cell bits n [] = refl
rows_named plan cell bits n (r ∷ rows) = λ i. lower (row_name bits n r) ∷ rows_named plan cell bits n rows i

pub names_are_free : (kit : Kit) (plan : Organization) (cell : Role → List ℕ) (bits : BitCells) (n : List ℕ) → first_taken kit (macro_names plan bits n) ≡ None → AreFree plan cell bits kit.deck.subckts n
names_are_free kit plan cell bits n none =
    subst (AllByRecursion (λ name. index_of (names_of kit.deck.subckts) name ≡ None)) (sym (rows_named plan cell bits n (numbers_from 0 (row_kinds bits (bank_rows plan))))) (none_known kit (macro_names plan bits n) none)

-- The cells that end a walk are the kit's.

fixed_subckts : (kit : Kit) (is : IsKit kit) → HasRomLeaves kit → (name : List ℕ) → Contains (fixed_cell_in kit.tech.roles false ∷ fixed_cell_in kit.tech.roles true ∷ []) name → HasCellOf kit.deck.subckts name Bitcell
fixed_subckts kit is has name there = elim (contains_cases (fixed_cell_in kit.tech.roles false) (fixed_cell_in kit.tech.roles true ∷ []) name there) [
  | inl e ↦ subst (λ (n : List ℕ). HasCellOf kit.deck.subckts n Bitcell) (sym e) (leaf_subckt kit is (leaf_role.Fixed false) (fixed_leaf kit is has false))
  | inr later ↦ elim (contains_cases (fixed_cell_in kit.tech.roles true) [] name later) [
    | inl e ↦ subst (λ (n : List ℕ). HasCellOf kit.deck.subckts n Bitcell) (sym e) (leaf_subckt kit is (leaf_role.Fixed true) (fixed_leaf kit is has true))
    | inr none ↦ absurd (contains_none name none)
  ]
]

fixed_among : (kit : Kit) (bit : Bool) → Contains (fixed_cell_in kit.tech.roles false ∷ fixed_cell_in kit.tech.roles true ∷ []) (fixed_cell_in kit.tech.roles bit)
fixed_among kit false = contains_here (fixed_cell_in kit.tech.roles false) (fixed_cell_in kit.tech.roles true ∷ []) (fixed_cell_in kit.tech.roles false) refl
fixed_among kit true = contains_later (fixed_cell_in kit.tech.roles false) (fixed_cell_in kit.tech.roles true ∷ []) (fixed_cell_in kit.tech.roles true) (contains_here (fixed_cell_in kit.tech.roles true) [] (fixed_cell_in kit.tech.roles true) refl)

pub leaves_for : (kit : Kit) (plan : Organization) (held : Held) (n : List ℕ) → IsKit kit → HasCellsFor kit held → first_taken kit (macro_names plan (held_cells kit.tech.roles plan held) n) ≡ None
    → AreLeavesFor plan (cell_in kit.tech.roles) (held_cells kit.tech.roles plan held) (leaf_names kit held) kit.deck.subckts n
leaves_for kit plan Stored n is has none =
    alike_leaves plan (cell_in kit.tech.roles) kit.deck.subckts n (λ (r : Role). leaf_subckt kit is (leaf_role.Common r) (has_leaf kit is r)) (names_are_free kit plan (cell_in kit.tech.roles) (held_cells kit.tech.roles plan Stored) n none)
leaves_for kit plan (Fixed words) n is has none =
    apart_leaves plan (cell_in kit.tech.roles) (λ r c. fixed_cell_in kit.tech.roles (fixed_bit plan words r c)) (fixed_cell_in kit.tech.roles false ∷ fixed_cell_in kit.tech.roles true ∷ []) kit.deck.subckts n
    (λ (r : Role). leaf_subckt kit is (leaf_role.Common r) (has_leaf kit is r)) (fixed_subckts kit is has) (λ r c lt_r lt_c. fixed_among kit (fixed_bit plan words r c)) (names_are_free kit plan (cell_in kit.tech.roles) (held_cells kit.tech.roles plan (Fixed words)) n none)
