use Rattle.cell_hierarchy.specs.Plain.{plain_label}
use Rattle.leaf_shapes.proofs.CandidateLaws.{unwanted_gives}
use Rattle.leaf_shapes.proofs.candidate.wanted_shape.Goals as goal

pub returns-then-not-is_wanted : goal.returns-then-not-is_wanted
returns-then-not-is_wanted c =
    unwanted_gives c.args.wanted c.args.bins.now c.args.pin.now (plain_label c.args.label.now) c.in-Some.shape c.requires c.in-Some.ensures
    (λ is. let yes = c.if-not-is_wanted.ensures.1 is in absurd cc)
