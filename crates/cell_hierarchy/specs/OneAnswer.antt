-- A structure has one answer: its flat lists or one refusal.
use Rattle.std.specs.Prelude.{◌≡◌, ◌≢◌, ℕ, List}
use Rattle.std.specs.List.{AllByRecursion}
use Rattle.or_geom.specs.declared.shape.Shape.{Shape}
use Rattle.gds_library.specs.declared.library.Structure.{Structure}
use Rattle.gds_library.specs.Writable.{IsWritableCell}
use Rattle.tech_rules.specs.declared.tech.Layer.{Layer}
use Rattle.cell_hierarchy.specs.Plain.{FlatLists}
use Rattle.cell_hierarchy.specs.declared.fault.FlattenFault.{FlattenFault}
use Rattle.cell_hierarchy.specs.declared.fault.FlattenFault.TheVariants as flatten_fault
use Rattle.cell_hierarchy.specs.FlatLists.{AreFlatShapes, AreFlatLists, IsFault}

-- a structure has one pair of flat lists
abbrev pub FlatListsAreUnique : Type 0
FlatListsAreUnique = (layers : List Layer) (structs : List Structure) (top : List ℕ) (a b : FlatLists) → AreFlatLists layers structs top a → AreFlatLists layers structs top b → a ≡ b

-- one list of flat shapes
abbrev pub FlatShapesAreUnique : Type 0
FlatShapesAreUnique = (layers : List Layer) (structs : List Structure) (top : List ℕ) (a b : List Shape) → AreFlatShapes layers structs top a → AreFlatShapes layers structs top b → a ≡ b

-- flat lists have the flat shapes
abbrev pub FlatListsHaveShapes : Type 0
FlatListsHaveShapes = (layers : List Layer) (structs : List Structure) (top : List ℕ) (lists : FlatLists) → AreFlatLists layers structs top lists → AreFlatShapes layers structs top lists.shapes

-- and one refusal, memory that ran out aside
abbrev pub FlattenFaultsAreUnique : Type 0
FlattenFaultsAreUnique = (layers : List Layer) (structs : List Structure) (top : List ℕ) (f g : FlattenFault) → AllByRecursion IsWritableCell structs → f ≢ flatten_fault.Memory → g ≢ flatten_fault.Memory
    → IsFault layers structs top f → IsFault layers structs top g → f ≡ g

-- and not both
abbrev pub FlattenFaultsExcludeShapes : Type 0
FlattenFaultsExcludeShapes = (layers : List Layer) (structs : List Structure) (top : List ℕ) (shapes : List Shape) (f : FlattenFault) → AllByRecursion IsWritableCell structs → f ≢ flatten_fault.Memory
    → IsFault layers structs top f → AreFlatShapes layers structs top shapes → ⊥

abbrev pub FlattenFaultsExcludeLists : Type 0
FlattenFaultsExcludeLists = (layers : List Layer) (structs : List Structure) (top : List ℕ) (lists : FlatLists) (f : FlattenFault) → AllByRecursion IsWritableCell structs → f ≢ flatten_fault.Memory
    → IsFault layers structs top f → AreFlatLists layers structs top lists → ⊥
