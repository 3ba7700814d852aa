-- What a macro's cells refer to.
use Rattle.std.specs.Prelude.{ℕ, ◌+◌, ◌≤◌, List, length}
use Rattle.gds_library.specs.declared.library.Structure.{Structure}
use Rattle.tech_rules.specs.declared.tech.Layer.{Layer}
use Rattle.cell_chains.specs.Instances.{Item}
use Rattle.cell_chains.specs.Chains.{IsChain, IsMissing, IsCyclic}
use Rattle.cell_builder.specs.declared.cell.DrawnCell.{DrawnCell}
use Rattle.sram_netlist.specs.Organization.{Organization}
use Rattle.sram_netlist.specs.Instances.{LeafInstance}
use Rattle.sram_netlist.specs.Membership.{HasLeafInstance}
use Rattle.macro_layout.specs.LayoutKit.{LayoutKit}
use Rattle.macro_layout.specs.Places.{leaf_cell}
use Rattle.macro_layout.specs.Layout.{Drawing, IsMacroOf}

-- all that the top reaches is there, nothing that it reaches reaches itself, and its chains have at most so many references
pub record IsSoundWithin (depth : ℕ) (structs : List Structure) (top : List ℕ) : Type 0 where
  pub there : (name : List ℕ) → IsMissing structs top name → ⊥
  pub acyclic : (name : List ℕ) → IsCyclic structs top name → ⊥
  pub short : (chain : List Item) (to : List ℕ) → IsChain structs top chain to → length chain ≤ depth

-- A macro's chains have at most four references more than those of its leaf cells: to a bank, its array, a row and the leaf.
abbrev pub MacrosAreSound : Type 0
MacrosAreSound = (layers : List Layer) (kit_structs : List Structure) (cells : List DrawnCell) (structs : List Structure) (plan : Organization) (kit : LayoutKit) (n : List ℕ) (d : Drawing) → IsMacroOf layers kit_structs cells structs plan kit n d
    → (depth : ℕ) → ((leaf : LeafInstance) → HasLeafInstance plan leaf → IsSoundWithin depth kit_structs (leaf_cell plan kit d.bits leaf)) → IsSoundWithin (depth + 4) structs n
