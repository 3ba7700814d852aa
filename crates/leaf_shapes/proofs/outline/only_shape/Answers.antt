use Rattle.std.proofs.Common.{refl}
use Rattle.leaf_shapes.proofs.OutlineLaws.{alone_are_all}
use Rattle.leaf_shapes.proofs.outline.only_shape.Goals as goal

pub returns-in_default : goal.returns-in_default
returns-in_default c = λ s alone. c.in_default.ensures s alone.there

pub returns-then-not-are_all : goal.returns-then-not-are_all
returns-then-not-are_all c =
    λ t alone. let yes = c.if-not-are_all.ensures.1 (alone_are_all c.args.layer c.args.shapes.now c.in-Some.shape t c.in-Some.ensures alone) in absurd cc

pub returns : goal.returns
returns c = record { there = c.in-Some.ensures; only = c.if-not-are_all.ensures.0 refl }
