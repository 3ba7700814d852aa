use Rattle.std.proofs.Common.{◌≡◌, ◌∙◌, ℤ, to_z, of_z, w64, refl, sym, ap, subst, arith}
use Rattle.std.proofs.lemmas.Int.{ints}
use Rattle.or_geom.proofs.ShapeOrderLaws.{reachable_at}
use Rattle.kit_rules.specs.Reach.{IsNearLength, passed_by}
use Rattle.kit_rules.proofs.PlaceLaws.{read_at}
use Rattle.kit_rules.proofs.ReachLaws.{greatest_begins, greatest_more, greatest_ends, greatest_as, max_as, near_more}
use Rattle.kit_rules.proofs.outlines.greatest_passed.Goals as goal

pub passed_by-requires-clause-rect : goal.passed_by-requires-clause-rect
passed_by-requires-clause-rect c = reachable_at c.args.shapes.now c.loop-shape.shape-index c.shape-item.result c.requires.reach c.loop-shape-test.true c.shape-item.is

pub loop-shape-init : goal.loop-shape-init
loop-shape-init c =
    let wa = c.requires.width.above in
    let wb = c.requires.width.below in
    let ha = c.requires.height.above in
    let hb = c.requires.height.below in
    let la = c.requires.least.above in
    let lb = c.requires.least.below in
    let w : to_z w64 (of_z w64 c.args.width) ≡ c.args.width = omega (arith, ints, wa, wb) in
    let h : to_z w64 (of_z w64 c.args.height) ≡ c.args.height = omega (arith, ints, ha, hb) in
    let l : to_z w64 (of_z w64 c.args.least) ≡ c.args.least = omega (arith, ints, la, lb) in
    greatest_as c.args.width _ c.args.height _ c.args.shapes.now 0 c.args.least _ c.args.least _ (sym w) (sym h) (sym l) (sym l) (greatest_begins c.args.width c.args.height c.args.shapes.now c.args.least c.requires.least)

pub loop-shape-preserved : goal.loop-shape-preserved
loop-shape-preserved c =
    let wa = c.requires.width.above in
    let wb = c.requires.width.below in
    let ha = c.requires.height.above in
    let hb = c.requires.height.below in
    let la = c.requires.least.above in
    let lb = c.requires.least.below in
    let w : to_z w64 (of_z w64 c.args.width) ≡ c.args.width = omega (arith, ints, wa, wb) in
    let h : to_z w64 (of_z w64 c.args.height) ≡ c.args.height = omega (arith, ints, ha, hb) in
    let l : to_z w64 (of_z w64 c.args.least) ≡ c.args.least = omega (arith, ints, la, lb) in
    let rect = c.shape-item.result.rect in
    let far = greatest_as _ c.args.width _ c.args.height c.args.shapes.now c.loop-shape.shape-index _ c.args.least _ (to_z w64 c.loop-shape.greatest-bits) w h l refl c.loop-shape.invariant in
    let by = c.passed_by.ensures.is ∙ (ap (λ (x : ℤ). passed_by x (to_z w64 (of_z w64 c.args.height)) c.shape-item.result.rect) w ∙ ap (λ (x : ℤ). passed_by c.args.width x c.shape-item.result.rect) h) in
    let pa = c.passed_by.ensures.near.above in
    let pb = c.passed_by.ensures.near.below in
    let ga = c.loop-shape.invariant.near.above in
    let gb = c.loop-shape.invariant.near.below in
    let gis = c.loop-shape.greatest-is in
    let read : to_z w64 (of_z w64 c.passed_by.result) ≡ c.passed_by.result = omega (arith, ints, pa, pb) in
    let is = max_as c.greater-greatest.result _ _ (to_z w64 c.loop-shape.greatest-bits) (passed_by c.args.width c.args.height c.shape-item.result.rect) c.greater-greatest.ensures (omega (arith, ints, gis, ga, gb)) (read ∙ by) in
    let near = near_more (to_z w64 c.loop-shape.greatest-bits) (passed_by c.args.width c.args.height c.shape-item.result.rect) c.greater-greatest.result c.loop-shape.invariant.near (subst IsNearLength by c.passed_by.ensures.near) is in
    let na = near.above in
    let nb = near.below in
    let next : to_z w64 (of_z w64 c.greater-greatest.result) ≡ c.greater-greatest.result = omega (arith, ints, na, nb) in
    greatest_as c.args.width _ c.args.height _ c.args.shapes.now _ c.args.least _ c.greater-greatest.result _ (sym w) (sym h) (sym l) (sym next)
    (greatest_more c.args.width c.args.height c.args.shapes.now c.loop-shape.shape-index c.shape-item.result c.args.least (to_z w64 c.loop-shape.greatest-bits) c.greater-greatest.result
    (read_at c.args.shapes.now c.loop-shape.shape-index c.shape-item.result c.loop-shape-test.true c.shape-item.is) near is far)

pub returns-clause-is : goal.returns-clause-is
returns-clause-is c =
    let wa = c.requires.width.above in
    let wb = c.requires.width.below in
    let ha = c.requires.height.above in
    let hb = c.requires.height.below in
    let la = c.requires.least.above in
    let lb = c.requires.least.below in
    let w : to_z w64 (of_z w64 c.args.width) ≡ c.args.width = omega (arith, ints, wa, wb) in
    let h : to_z w64 (of_z w64 c.args.height) ≡ c.args.height = omega (arith, ints, ha, hb) in
    let l : to_z w64 (of_z w64 c.args.least) ≡ c.args.least = omega (arith, ints, la, lb) in
    greatest_ends c.args.width c.args.height c.args.shapes.now c.loop-shape.shape-index c.args.least (to_z w64 c.loop-shape.greatest-bits) c.loop-shape-test.false
    (greatest_as _ c.args.width _ c.args.height c.args.shapes.now c.loop-shape.shape-index _ c.args.least _ (to_z w64 c.loop-shape.greatest-bits) w h l refl c.loop-shape.invariant)

pub returns-clause-near : goal.returns-clause-near
returns-clause-near c = c.loop-shape.invariant.near
