use Rattle.std.proofs.Common.{List, subst, refl}
use Rattle.std.proofs.lemmas.Option.{slice_get_read}
use Rattle.cell_hierarchy.specs.declared.parts.CellPart.{CellPart}
use Rattle.cell_hierarchy.specs.Drawings.{IsCellPart}
use Rattle.cell_hierarchy.proofs.CellLaws.{structure_stands, targets_sized}
use Rattle.cell_hierarchy.proofs.PartLaws.{parts_begin, parts_go_on}
use Rattle.cell_hierarchy.proofs.parts.parts_of.Goals as goal

pub part_of-requires-clause-stands : goal.part_of-requires-clause-stands
part_of-requires-clause-stands c =
    let at = slice_get_read c.args.cells.now _ c.loop-cell.cell-index c.cell-item.result refl c.loop-cell-test.true c.cell-item.is in
    structure_stands c.args.structs.now c.args.cells.now c.loop-cell.cell-index c.cell-item.result (c.requires.cells.each c.loop-cell.cell-index c.cell-item.result at)

pub part_of-requires-clause-sized : goal.part_of-requires-clause-sized
part_of-requires-clause-sized c =
    let at = slice_get_read c.args.cells.now _ c.loop-cell.cell-index c.cell-item.result refl c.loop-cell-test.true c.cell-item.is in
    targets_sized c.args.structs.now c.args.cells.now c.loop-cell.cell-index c.cell-item.result (c.requires.cells.each c.loop-cell.cell-index c.cell-item.result at)

pub loop-cell-preserved : goal.loop-cell-preserved
loop-cell-preserved c =
    let at = slice_get_read c.args.cells.now _ c.loop-cell.cell-index c.cell-item.result refl c.loop-cell-test.true c.cell-item.is in
    let part = subst (λ (l : List CellPart). IsCellPart c.args.layers.now c.args.keeps_labels c.args.structs.now c.cell-item.result l c.in_ok-part.part) c.deref.ensures.value c.in_ok-part.ensures in
    parts_go_on c.args.layers.now c.args.keeps_labels c.args.structs.now c.args.cells.now c.loop-cell.parts.items _ c.loop-cell.cell-index c.cell-item.result c.in_ok-part.part c.requires.writable c.requires.cells at c.loop-cell.invariant part
    c.in_ok-push.ensures.items

pub loop-cell-init : goal.loop-cell-init
loop-cell-init c = parts_begin c.args.layers.now c.args.keeps_labels c.args.structs.now c.args.cells.now _ c.new-parts.ensures.items
