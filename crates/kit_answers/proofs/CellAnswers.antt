-- Each structure of a library that can be written has flat lists, or a fault.
use Rattle.std.proofs.Common.{◌≢◌, ◌⊎◌, ℕ, List}
use Rattle.gds_library.specs.declared.library.Library.{Library}
use Rattle.gds_library.specs.declared.library.Structure.{Structure}
use Rattle.gds_library.specs.Writable.{IsWritable}
use Rattle.tech_rules.specs.declared.tech.Layer.{Layer}
use Rattle.tech_rules.specs.declared.tech.Tech.{Tech}
use Rattle.tech_rules.specs.Facts.{IsTech}
use Rattle.cell_hierarchy.specs.declared.fault.FlattenFault.{FlattenFault}
use Rattle.cell_hierarchy.specs.declared.fault.FlattenFault.TheVariants as flatten_fault
use Rattle.cell_hierarchy.specs.FlatLists.{AreFlatLists, IsFault}
use Rattle.cell_hierarchy.specs.Plain.{FlatLists}
use Rattle.flat_answers.proofs.FlatAnswerLaws.{flat_lists_or_fault}

-- a structure has flat lists, or a fault that is no want of memory
abbrev pub FlatListsOrFault : List Layer → List Structure → List ℕ → Type 0
FlatListsOrFault layers structs top =
    ((lists : FlatLists) × AreFlatLists layers structs top lists)
    ⊎ ((fault : FlattenFault) × (fault ≢ flatten_fault.Memory) × IsFault layers structs top fault)

-- each structure of a library that can be written has them, by the layers of a technology
abbrev pub CellsHaveFlatLists : Type 0
CellsHaveFlatLists = (tech : Tech) (lib : Library) (top : List ℕ) → IsTech tech → IsWritable lib → FlatListsOrFault tech.layers lib.structs top

pub cells_have_flat_lists : CellsHaveFlatLists
cells_have_flat_lists tech lib top is writable = flat_lists_or_fault tech.layers lib.structs top writable.cells
