use Rattle.std.proofs.Common.{refl}
use Rattle.cell_hierarchy.proofs.TopLaws.{top_named, top_has, top_drawing_is}
use Rattle.cell_hierarchy.proofs.top.top_drawing.Goals as goal

pub returns : goal.returns
returns c =
    let tree = c.args.tree.now in
    let top = c.args._top.now in
    let nothing = c.in_ok-gathered.ensures in
    top_drawing_is tree top c.add_cell.new.out
    (top_has tree top _ c.in_ok-gathered.gathered c.add_cell.new.out nothing.shapes nothing.labels nothing.points refl refl (c.in_ok-add_cell.ensures top (top_named tree top _ c.requires.cells refl)))
