use Rattle.std.proofs.Common.{◌<◌, length, rules}
use Rattle.cell_hierarchy.proofs.WalkedElementLaws.{cell_read, targets_within, elements_within, element_read}
use Rattle.cell_hierarchy.proofs.walk.element_at.Goals as goal

pub offset_bounds-as_slice-n : goal.offset_bounds-as_slice-n
offset_bounds-as_slice-n c =
    let r = cell_read c.args.tree.now c.args.index c.args.n c.index-tree-index.result c.requires.tree c.requires.live in
    let lt : c.args.n < length c.as_slice.result.now = targets_within c.args.tree.now c.args.index c.args.n _ c.as_slice.result.now r c.as_slice.ensures in
    search rules

pub bounds-as_slice-n : goal.bounds-as_slice-n
bounds-as_slice-n c =
    let r = cell_read c.args.tree.now c.args.index c.args.n c.index-tree-index.result c.requires.tree c.requires.live in
    targets_within c.args.tree.now c.args.index c.args.n _ c.as_slice.result.now r c.as_slice.ensures

pub offset_bounds-tree-cell : goal.offset_bounds-tree-cell
offset_bounds-tree-cell c =
    let r = cell_read c.args.tree.now c.args.index c.args.n c.index-tree-index.result c.requires.tree c.requires.live in
    let lt = r.within in
    search rules

pub bounds-tree-cell : goal.bounds-tree-cell
bounds-tree-cell c = (cell_read c.args.tree.now c.args.index c.args.n c.index-tree-index.result c.requires.tree c.requires.live).within

pub offset_bounds-as_slice-n-2 : goal.offset_bounds-as_slice-n-2
offset_bounds-as_slice-n-2 c =
    let r = cell_read c.args.tree.now c.args.index c.args.n c.index-tree-index.result c.requires.tree c.requires.live in
    let lt : c.args.n < length c.as_slice-2.result.now = elements_within c.args.tree.now c.args.index c.args.n _ c.index-tree-cell.result c.as_slice-2.result.now r c.as_slice-2.ensures in
    search rules

pub bounds-as_slice-n-2 : goal.bounds-as_slice-n-2
bounds-as_slice-n-2 c =
    let r = cell_read c.args.tree.now c.args.index c.args.n c.index-tree-index.result c.requires.tree c.requires.live in
    elements_within c.args.tree.now c.args.index c.args.n _ c.index-tree-cell.result c.as_slice-2.result.now r c.as_slice-2.ensures

pub returns : goal.returns
returns c =
    let r = cell_read c.args.tree.now c.args.index c.args.n c.index-tree-index.result c.requires.tree c.requires.live in
    element_read c.args.tree.now c.args.index c.args.n _ c.index-tree-cell.result c.as_slice.result.now c.as_slice-2.result.now c.index-as_slice-n.result r c.as_slice.ensures c.as_slice-2.ensures c.index-as_slice-n.is
