-- How many items flat lists have.
use Rattle.std.specs.Prelude.{ℕ, List, length, ◌≤◌, ◌^◌}
use Rattle.std.specs.List.{AllByRecursion}
use Rattle.or_geom.specs.declared.shape.Shape.{Shape}
use Rattle.gds_library.specs.declared.library.Structure.{Structure}
use Rattle.gds_library.specs.Writable.{IsWritableCell}
use Rattle.tech_rules.specs.declared.tech.Layer.{Layer}
use Rattle.cell_hierarchy.specs.Plain.{FlatLists}
use Rattle.cell_hierarchy.specs.FlatLists.{AreFlatShapes, AreFlatLists}

-- flat lists have at most 2^22 labels
abbrev pub FlatLabelsAreFew : Type 0
FlatLabelsAreFew = (layers : List Layer) (structs : List Structure) (top : List ℕ) (lists : FlatLists) → AreFlatLists layers structs top lists → length lists.labels ≤ 2 ^ 22

-- the flat shapes of a library's structures are at most 2^24
abbrev pub FlatShapesAreFew : Type 0
FlatShapesAreFew = (layers : List Layer) (structs : List Structure) (top : List ℕ) (shapes : List Shape) → AllByRecursion IsWritableCell structs
    → AreFlatShapes layers structs top shapes → length shapes ≤ 2 ^ 24
