use Rattle.std.proofs.Common.{get_or, refl}
use Rattle.std.proofs.lemmas.Option.{slice_get-get_or}
use Rattle.leaf_contacts.proofs.StandLaws.{stand_below}
use Rattle.leaf_contacts.proofs.references.stand_below.Goals as goal

pub returns : goal.returns
returns c chain r is at =
    let summaries = c.args.tree.now.summaries.now in
    stand_below c.args.tree.now chain r c.args.outer.now _ c.args.target c.args.step c.args.place (get_or summaries c.args.target c.index-tree-target.result) c.requires.tree c.requires.place
    (slice_get-get_or summaries c.args.target c.index-tree-target.result c.requires.target)
    (record { cell = refl; applied = c.then.ensures.applied; bound = c.then.ensures.bound; steps = c.in_ok-steps.ensures; instance = c.instance_below.ensures }) is at
