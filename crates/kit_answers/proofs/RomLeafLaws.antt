-- A kit has the leaf cells of a read-only memory, or a fault of them.
use Rattle.std.proofs.Common.{◌≢◌, ◌⊎◌, inl, inr, Bool, true, false, refl, arith}
use Rattle.cell_roles.specs.declared.leaf_role.LeafRole.TheVariants.{Fixed}
use Rattle.role_tables.specs.declared.fault.TableFault.{TableFault}
use Rattle.role_tables.specs.declared.fault.TableFault.TheVariants as table_fault
use Rattle.leaf_shapes.proofs.PinLaws.{exists_at}
use Rattle.leaf_tables.specs.declared.fault.KitFault.{KitFault}
use Rattle.leaf_tables.specs.declared.fault.KitFault.TheVariants as kit_fault
use Rattle.leaf_tables.specs.declared.kit.Kit.{Kit}
use Rattle.leaf_tables.specs.declared.kit.Leaf.{Leaf}
use Rattle.leaf_tables.specs.Faults.{of_table}
use Rattle.leaf_tables.specs.Kits.{IsKit, source_of}
use Rattle.leaf_tables.specs.Leaves.{LeafSource}
use Rattle.rom_leaves.specs.declared.side.SharedSide.{SharedSide}
use Rattle.rom_leaves.specs.declared.side.SharedSide.TheVariants.{Height, Width, LeftOfBl, LeftOfBr, LowOfWl}
use Rattle.rom_leaves.specs.RomLeaves.{AreFixedLeaves, IsFixedFault, IsFixedLeaf}
use Rattle.rom_leaves.specs.Shared.{IsShared, cell_with, fault_of_side, measure_of, shared_sides}
use Rattle.kit_answers.proofs.CellAnswers.{CellsHaveFlatLists, cells_have_flat_lists}
use Rattle.kit_answers.specs.RomLeafAnswers.{RomLeavesAnswer, RomLeavesOrFault}
use Rattle.kit_answers.proofs.AlignAnswers.{all_or_odd, decide_measures}
use Rattle.kit_answers.proofs.LeafAnswers.{leaf_or_fault}
use Rattle.kit_answers.proofs.TableAnswers.{table_or_fault}

table_told : (fault : TableFault) → fault ≢ table_fault.Memory → of_table fault ≢ kit_fault.Memory
table_told (table_fault.MissingRole role) some e = absurd (cc)
table_told (table_fault.BadRow role row) some e = absurd (cc)
table_told (table_fault.Differs role point) some e = absurd (cc)
table_told table_fault.Memory some e = some refl

side_told : (bit : Bool) (side : SharedSide) → fault_of_side bit side ≢ kit_fault.Memory
side_told bit Height e = absurd (cc)
side_told bit Width e = absurd (cc)
side_told bit LeftOfBl e = absurd (cc)
side_told bit LeftOfBr e = absurd (cc)
side_told bit LowOfWl e = absurd (cc)

module _ (flat : CellsHaveFlatLists) (kit : Kit) (is : IsKit kit) where
  abbrev Source : LeafSource
  Source = source_of kit is.wire

  abbrev HasFixed : Bool → Type 0
  HasFixed bit = (leaf : Leaf) × IsFixedLeaf Source bit leaf

  -- the cell for a bit is there, or it has a fault
  fixed_or_fault : (bit : Bool) → HasFixed bit ⊎ ((fault : KitFault) × (fault ≢ kit_fault.Memory) × IsFixedFault Source bit fault)
  fixed_or_fault bit = elim (table_or_fault kit.tech (Fixed bit)) [
    | inr fault ↦ inr (of_table fault.0, table_told fault.0 fault.1, inl (record { table = fault.0; is = fault.2; told = refl }))
    | inl table ↦ elim (leaf_or_fault Source (Fixed bit) (λ top. flat kit.tech kit.lib top is.tech is.library) table.cell) [
      | inl leaf ↦ inl (leaf.0, record { table = table; is = leaf.1 })
      | inr fault ↦ inr (fault.0, fault.1, inr (table, fault.2))
    ]
  ]

  -- both cells are there
  by_sides : HasFixed false → HasFixed true → RomLeavesOrFault kit
  by_sides zero one =
      let leaf : Bool → Leaf = cell_with zero.0 one.0 in
      let are : AreFixedLeaves kit leaf = record { wire = is.wire; wired = is.wired; each = each zero one } in
      let sized = is.leaves.sized in
      let bitcell = exists_at kit.leaves 0 (omega (arith, sized)) in
      elim
      (all_or_odd (IsShared bitcell.0 leaf) shared_sides
      (λ (p : Bool × SharedSide). decide_measures (measure_of p.1 (leaf p.0)) (measure_of p.1 bitcell.0))) [
        | inl shared ↦ inl (record { leaf = leaf; are = are; bitcell = bitcell.0; there = bitcell.1; shared = shared })
        | inr odd ↦ inr (
          fault_of_side odd.0.0 odd.0.1,
          side_told odd.0.0 odd.0.1,
          inr (record { leaf = leaf; are = are; bitcell = bitcell.0; there = bitcell.1; is = record { pair = odd.0; first = odd.1; is = inr refl } }),
        )
      ]
    where
      each : (zero : HasFixed false) (one : HasFixed true) (bit : Bool) → IsFixedLeaf Source bit (cell_with zero.0 one.0 bit)
      each zero one false = zero.1
      each zero one true = one.1

  rom_leaves_or_fault : RomLeavesOrFault kit
  rom_leaves_or_fault = elim (fixed_or_fault false) [
    | inr fault ↦ inr (fault.0, fault.1, inl (record { wire = is.wire; wired = is.wired; bit = false; is = fault.2; before = λ one. absurd (cc) }))
    | inl zero ↦ elim (fixed_or_fault true) [
      | inr fault ↦ inr (fault.0, fault.1, inl (record { wire = is.wire; wired = is.wired; bit = true; is = fault.2; before = λ one. zero }))
      | inl one ↦ by_sides zero one
    ]
  ]

pub rom_leaves_answer : RomLeavesAnswer
rom_leaves_answer = rom_leaves_or_fault cells_have_flat_lists
