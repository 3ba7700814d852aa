-- Structures from which the same is flattened.
use Rattle.std.specs.Prelude.{◌≤◌, ◌^◌, ◌↔◌, ℕ, List, length}
use Rattle.or_geom.specs.declared.shape.Shape.{Shape}
use Rattle.gds_library.specs.declared.library.Structure.{Structure}
use Rattle.gds_library.specs.declared.library.Library.{Library}
use Rattle.gds_library.specs.Grammar.{Spells}
use Rattle.gds_library.specs.Writable.{IsWritable}
use Rattle.gds_stream.specs.Turned.{turned_library}
use Rattle.tech_rules.specs.declared.tech.Layer.{Layer}
use Rattle.element_drawing.specs.PlainLabel.{PlainLabel}
use Rattle.cell_hierarchy.specs.Plain.{FlatLists}
use Rattle.cell_hierarchy.specs.FlatSet.{IsFlatShape, IsFlatLabel}
use Rattle.cell_hierarchy.specs.FlatLists.{IsFault, AreFlatShapes, AreFlatLists}
use Rattle.cell_hierarchy.specs.declared.fault.FlattenFault.{FlattenFault}

-- a structure of either library has the same flat shapes and labels, the same lists of them, and the same fault
pub record SameFlat (layers : List Layer) (a b : List Structure) (top : List ℕ) : Type 0 where
  pub shapes : (s : Shape) → IsFlatShape layers a top s ↔ IsFlatShape layers b top s
  pub labels : (label : PlainLabel) → IsFlatLabel layers a top label ↔ IsFlatLabel layers b top label
  pub shape_lists : (shapes : List Shape) → AreFlatShapes layers a top shapes ↔ AreFlatShapes layers b top shapes
  pub lists : (lists : FlatLists) → AreFlatLists layers a top lists ↔ AreFlatLists layers b top lists
  pub faults : (fault : FlattenFault) → IsFault layers a top fault ↔ IsFault layers b top fault

-- a writable library with its boundaries turned is flat as the library itself
abbrev pub TurningKeepsFlat : Type 0
TurningKeepsFlat = (layers : List Layer) (lib : Library) (top : List ℕ) → IsWritable lib
    → SameFlat layers (turned_library lib).structs lib.structs top

-- bytes that spell a writable library with its boundaries turned, as those that are written do, spell only what is flat
-- as the library itself
abbrev pub WritingKeepsFlat : Type 0
WritingKeepsFlat = (layers : List Layer) (lib read : Library) (bytes : List ℕ) (top : List ℕ) → IsWritable lib
    → length bytes ≤ 2 ^ 64 → Spells bytes (turned_library lib) → Spells bytes read
    → SameFlat layers read.structs lib.structs top
