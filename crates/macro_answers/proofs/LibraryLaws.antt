-- A list of cells has a library.
use Rattle.std.proofs.Common.{ℕ, List, [], ◌∷◌, ◌++◌, refl}
use Rattle.or_geom.specs.ShapeOrder.{shape_order}
use Rattle.or_geom.proofs.ShapeOrderLaws.{shape_total}
use Rattle.gds_library.specs.declared.library.Library.{Library}
use Rattle.gds_library.specs.declared.library.Structure.{Structure}
use Rattle.tech_rules.specs.declared.tech.Layer.{Layer}
use Rattle.cell_builder.specs.CellList.{CellList}
use Rattle.cell_builder.specs.Finish.{AreFinished, IsInOrder, IsLibraryOf}
use Rattle.cell_builder.specs.LabelOrder.{text_order, text_total}
use Rattle.cell_builder.specs.Structures.{structure_of}
use Rattle.cell_builder.specs.declared.cell.DrawnCell.{DrawnCell}
use Rattle.channel_answers.proofs.OrderLaws.{sorted_there}

order_there : (cell : DrawnCell) → (sorted : DrawnCell) × IsInOrder cell sorted
order_there cell =
    let wires = sorted_there shape_order shape_total cell.wires in
    let labels = sorted_there text_order text_total cell.labels in (
      record { name = cell.name; instances = cell.instances; wires = wires.0; labels = labels.0 },
      record { name = refl; instances = refl; wires_rise = wires.2; wires_same = wires.1; labels_rise = labels.2; labels_same = labels.1 },
    )

finished_there : (layers : List Layer) (cells : List DrawnCell) → (structs : List Structure) × AreFinished layers cells structs
finished_there layers [] = ([], refl)
finished_there layers (cell ∷ cells) =
    let first = order_there cell in
    let rest = finished_there layers cells in
    (structure_of layers first.0 ∷ rest.0, (record { sorted = first.0; order = first.1; is = refl }, rest.1))

pub library_there : (layers : List Layer) (list : CellList) (name : List ℕ) → (lib : Library) × IsLibraryOf layers list name lib
library_there layers list name =
    let made = finished_there layers list.cells in
    (record { name = name; structs = list.adopted ++ made.0 }, record { named = refl; structs = record { made = made.0; each = made.1; parts = refl } })
