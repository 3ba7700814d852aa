use Rattle.std.proofs.Common.{◌-◌, get_or, length, refl}
use Rattle.std.proofs.lemmas.Option.{slice_get-get_or}
use Rattle.leaf_contacts.proofs.LevelLaws.{summaries_long, top_stands}
use Rattle.leaf_contacts.proofs.levels.top_stand.Goals as goal

pub returns : goal.returns
returns c =
    let tree = c.args.tree.now in
    let top = length tree.cells.now - 1 in
    let there = slice_get-get_or tree.summaries.now top c.index-tree-cell.result (summaries_long tree c.requires) in
    top_stands tree _ (get_or tree.summaries.now top c.index-tree-cell.result) c.requires there refl refl c.in_ok-steps.ensures c.instance_below.ensures
