use Rattle.std.proofs.Common.{map, refl, arith}
use Rattle.std.proofs.lemmas.List.{length-map}
use Rattle.leaf_tables.proofs.FindLaws.{same_by_places}
use Rattle.leaf_tables.proofs.leaf.are_ports.Goals as goal

pub returns : goal.returns
returns c =
    let wanted = c.args.wanted.now in
    let same = length-map wanted (λ t. t.now) in
    let sized = c.if-ports-wanted.false in
    let done = c.loop-place-test.false in (
      λ _. same_by_places c.args.ports.now (map (λ t. t.now) wanted) (omega (arith, same, sized)) (λ k lt. c.loop-place.invariant k (omega (arith, lt, done))),
      λ _. refl,
    )
