-- When the library of drawn cells can be written.
use Rattle.std.specs.Prelude.{◌≢◌, ℕ, List}
use Rattle.std.specs.List.{AllByRecursion, AllPairs}
use Rattle.or_geom.specs.declared.shape.Shape.{Shape}
use Rattle.or_geom.specs.Place.{low_corner, high_corner}
use Rattle.gds_records.specs.Values.{IsShort}
use Rattle.gds_library.specs.declared.library.Structure.{Structure}
use Rattle.gds_library.specs.declared.library.Library.{Library}
use Rattle.gds_library.specs.Writable.{IsText, IsWritableCell, IsWritable}
use Rattle.tech_rules.specs.declared.tech.Layer.{Layer}
use Rattle.cell_builder.specs.declared.cell.PlacedInstance.{PlacedInstance}
use Rattle.cell_builder.specs.declared.cell.PlacedLabel.{PlacedLabel}
use Rattle.cell_builder.specs.declared.cell.DrawnCell.{DrawnCell}
use Rattle.cell_builder.specs.CellList.{CellList}
use Rattle.cell_builder.specs.Finish.{IsLibraryOf}

pub record IsWritableInstance (i : PlacedInstance) : Type 0 where
  pub name : IsText i.name
  pub of_ : IsText i.of
  pub at : IsShort i.place.at

-- both corners fit 32 bits
pub record IsWritableWire (s : Shape) : Type 0 where
  pub low : IsShort (low_corner s.rect)
  pub high : IsShort (high_corner s.rect)

pub record IsWritableText (l : PlacedLabel) : Type 0 where
  pub text : IsText l.text
  pub at : IsShort l.at

pub record IsWritableDrawn (cell : DrawnCell) : Type 0 where
  pub name : IsText cell.name
  pub instances : AllByRecursion IsWritableInstance cell.instances
  pub wires : AllByRecursion IsWritableWire cell.wires
  pub labels : AllByRecursion IsWritableText cell.labels

-- The library of writable cells whose names differ can be written.
abbrev pub FinishedIsWritable : Type 0
FinishedIsWritable = (layers : List Layer) (list : CellList) (name : List ℕ) (lib : Library) → IsLibraryOf layers list name lib → IsText name → AllByRecursion IsWritableCell list.adopted
    → AllByRecursion IsWritableDrawn list.cells → AllPairs (λ (a b : Structure). a.name ≢ b.name) lib.structs → IsWritable lib
