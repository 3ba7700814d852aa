use Rattle.std.proofs.Common.{ℕ, subst, arith}
use Rattle.std.proofs.lemmas.Option.{get_or_from_slice_get}
use Rattle.shape_bins.proofs.ForestLaws.{place_within}
use Rattle.net_extractor.specs.Sets.{AreTogether}
use Rattle.net_extractor.proofs.marks.first_root.Goals as goal

pub root-requires-clause-inside : goal.root-requires-clause-inside
root-requires-clause-inside c =
    let lt = place_within c.args.forest.shapes.now c.args.forest.places.now c.args.node c.args.node.first c.requires.over (omega arith) (omega (arith, c.if-node.false)) in
    omega (arith, lt, c.requires.sized)

pub returns-clause-first : goal.returns-clause-first
returns-clause-first c = λ place there.
    subst (λ (k : ℕ). AreTogether c.root.new.above k c.root.result) (get_or_from_slice_get c.args.forest.places.now c.args.node.first place 0 there)
    (c.root.ensures.alike.kept.keeps _ _ c.root.ensures.leads)
