use Rattle.std.proofs.Common.{ℕ, List, length, ap, refl, sym, subst, ◌∙◌, arith}
use Rattle.std.proofs.lemmas.Option.{slice_get_read}
use Rattle.gds_library.specs.Writable.{IsWritableCell}
use Rattle.cell_hierarchy.proofs.CellLaws.{all_got, structure_stands, targets_sized}
use Rattle.leaf_contacts.specs.Contact.{leaf_cell_names}
use Rattle.leaf_contacts.specs.declared.cells.CellSummary.{CellSummary}
use Rattle.leaf_contacts.specs.Stands.{AreCellSummaries, IsCellSummary}
use Rattle.leaf_contacts.proofs.SummaryLaws.{summaries_begin, summaries_end, summaries_more}
use Rattle.leaf_contacts.proofs.cells.summaries_of.Goals as goal

pub loop-cell-init : goal.loop-cell-init
loop-cell-init c =
    subst (AreCellSummaries c.args.layers.now (leaf_cell_names c.args.leaves.now) c.args.structs.now c.args.cells.now 0) (sym c.new-summaries.ensures.items) (summaries_begin c.args.layers.now (leaf_cell_names c.args.leaves.now) c.args.structs.now c.args.cells.now)

pub structure_at-structure-requires : goal.structure_at-structure-requires
structure_at-structure-requires c =
    let at = slice_get_read c.args.cells.now _ c.loop-cell.cell-index c.cell-item.result refl c.loop-cell-test.true c.cell-item.is in
    structure_stands c.args.structs.now c.args.cells.now c.loop-cell.cell-index c.cell-item.result (c.requires.cells.each c.loop-cell.cell-index c.cell-item.result at)

pub summary_of-requires-clause-writable : goal.summary_of-requires-clause-writable
summary_of-requires-clause-writable c = all_got IsWritableCell c.args.structs.now c.cell-item.result.structure c.structure_at-structure.result.now c.requires.writable c.structure_at-structure.ensures

pub summary_of-requires-clause-sized : goal.summary_of-requires-clause-sized
summary_of-requires-clause-sized c =
    let at = slice_get_read c.args.cells.now _ c.loop-cell.cell-index c.cell-item.result refl c.loop-cell-test.true c.cell-item.is in
    ap length c.as_slice-targets.ensures
    ∙ targets_sized c.args.structs.now c.args.cells.now c.loop-cell.cell-index c.cell-item.result (c.requires.cells.each c.loop-cell.cell-index c.cell-item.result at) c.structure_at-structure.result.now c.structure_at-structure.ensures

pub loop-cell-preserved : goal.loop-cell-preserved
loop-cell-preserved c =
    let leaves = leaf_cell_names c.args.leaves.now in
    let structure = c.structure_at-structure.result.now in
    let at = slice_get_read c.args.cells.now _ c.loop-cell.cell-index c.cell-item.result refl c.loop-cell-test.true c.cell-item.is in
    let made =
    subst (λ (l : List CellSummary). IsCellSummary c.args.layers.now (leaf_cell_names c.args.leaves.now) c.structure_at-structure.result.now c.cell-item.result.targets l c.in_ok-summary.summary) c.deref.ensures.value
    (subst (λ (l : List ℕ). IsCellSummary c.args.layers.now (leaf_cell_names c.args.leaves.now) c.structure_at-structure.result.now l c.deref.result.now c.in_ok-summary.summary) c.as_slice-targets.ensures c.in_ok-summary.ensures) in
    summaries_more c.args.layers.now leaves c.args.structs.now c.args.cells.now c.loop-cell.cell-index c.cell-item.result structure c.in_ok-summary.summary c.loop-cell.summaries.items _ c.requires.cells at c.structure_at-structure.ensures
    c.in_ok-push.ensures.items made c.loop-cell.invariant

pub returns : goal.returns
returns c =
    let over = c.loop-cell-test.false in
    let within = c.loop-cell.auto.cell-index-end in
    summaries_end c.args.layers.now (leaf_cell_names c.args.leaves.now) c.args.structs.now c.args.cells.now c.loop-cell.cell-index c.loop-cell.summaries.items (omega (arith, over, within)) c.loop-cell.invariant
