-- A structure of a library has its flat lists, or a fault.
use Rattle.std.specs.Prelude.{◌≢◌, ◌⊎◌, ℕ, List}
use Rattle.std.specs.List.{AllByRecursion}
use Rattle.or_geom.specs.declared.shape.Shape.{Shape}
use Rattle.gds_library.specs.declared.library.Structure.{Structure}
use Rattle.gds_library.specs.Writable.{IsWritableCell}
use Rattle.tech_rules.specs.declared.tech.Layer.{Layer}
use Rattle.cell_hierarchy.specs.FlatLists.{IsFault, AreFlatShapes, AreFlatLists}
use Rattle.cell_hierarchy.specs.Plain.{FlatLists}
use Rattle.cell_hierarchy.specs.declared.fault.FlattenFault.{FlattenFault}
use Rattle.cell_hierarchy.specs.declared.fault.FlattenFault.TheVariants as flatten_fault

-- why it has none, and memory isn't the reason
abbrev pub HasFault : List Layer → List Structure → List ℕ → Type 0
HasFault layers structs top = (fault : FlattenFault) × (fault ≢ flatten_fault.Memory) × IsFault layers structs top fault

-- structures of a library, whatever their names, and any name of a top: flat shapes or a fault
abbrev pub FlatShapesOrFault : Type 0
FlatShapesOrFault = (layers : List Layer) (structs : List Structure) (top : List ℕ) → AllByRecursion IsWritableCell structs
    → ((shapes : List Shape) × AreFlatShapes layers structs top shapes) ⊎ HasFault layers structs top

-- flat shapes and labels, or a fault
abbrev pub FlatListsOrFault : Type 0
FlatListsOrFault = (layers : List Layer) (structs : List Structure) (top : List ℕ) → AllByRecursion IsWritableCell structs
    → ((lists : FlatLists) × AreFlatLists layers structs top lists) ⊎ HasFault layers structs top
