use Rattle.std.proofs.Common.{arith}
use Rattle.std.proofs.lemmas.Option.{slice_get_within, slice_get-get_or}
use Rattle.cell_hierarchy.specs.Plain.{plain_label}
use Rattle.leaf_nets.proofs.BoundLaws.{gives_here}
use Rattle.leaf_nets.proofs.label.net_of.Goals as goal

pub returns : goal.returns
returns c =
    let bound = c.in-Some.ensures in
    let within = slice_get_within c.args.bins.now c.in-Some.place bound.shape bound.there in
    let sized = c.requires.sized in
    gives_here c.args.bins.now c.args.nets.now (plain_label c.args.label.now) c.in-Some.place _ c.requires.rises bound (slice_get-get_or c.args.nets.now c.in-Some.place 0 (omega (arith, sized, within)))
