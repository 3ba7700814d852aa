use Rattle.std.proofs.Common.{List, map, refl, subst, arith}
use Rattle.std.specs.List.{AllByRecursion}
use Rattle.std.proofs.lemmas.List.{length-map}
use Rattle.leaf_tables.specs.Alignment.{Face, IsFirstOdd, PinPair, plain_facing}
use Rattle.leaf_shapes.proofs.PlaceLaws.{each_more}
use Rattle.leaf_tables.proofs.AlignLaws.{all_each, first_odd, facing_at}
use Rattle.leaf_tables.proofs.align.first_facing.Goals as goal

pub returns-then-not-face : goal.returns-then-not-face
returns-then-not-face c =
    let P = Face c.args.leaves.now in
    let all = c.facing_pins-all.result.now in
    let facing = c.facing_at-facing.result in
    subst (λ (pairs : List PinPair). IsFirstOdd P pairs (plain_facing facing)) c.facing_pins-all.ensures
    (first_odd P (map plain_facing all) c.loop-index.index (plain_facing facing) (facing_at all c.loop-index.index facing c.facing_at-facing.ensures) (λ is. let same = c.if-not-face.ensures.1 is in absurd cc) c.loop-index.invariant)

pub loop-index-preserved : goal.loop-index-preserved
loop-index-preserved c =
    let all = c.facing_pins-all.result.now in
    let facing = c.facing_at-facing.result in
    each_more (Face c.args.leaves.now) (map plain_facing all) c.loop-index.index (plain_facing facing) (facing_at all c.loop-index.index facing c.facing_at-facing.ensures) (c.if-not-face.ensures.0 refl) c.loop-index.invariant

pub returns : goal.returns
returns c =
    let P = Face c.args.leaves.now in
    let all = c.facing_pins-all.result.now in
    let same = length-map all plain_facing in
    let done = c.loop-index-test.false in
    subst (λ (pairs : List PinPair). AllByRecursion P pairs) c.facing_pins-all.ensures
    (all_each P (map plain_facing all) c.loop-index.index (omega (arith, same, done)) c.loop-index.invariant)
