use Rattle.std.proofs.Common.{◌≡◌, ◌∙◌, pos, ◌-ℤ◌, ◌^◌, to_z, of_z, w64, refl, sym, subst, arith}
use Rattle.std.specs.Int.{int_max}
use Rattle.std.proofs.lemmas.Int.{ints}
use Rattle.kit_rules.specs.Reach.{IsNearLength, passed_by}
use Rattle.kit_rules.proofs.ReachLaws.{passed_is, passed_near, max_as, most_of, at_least_left, at_most, read_back, read_near, floor_of}
use Rattle.kit_rules.proofs.outlines.passed_by.Goals as goal

passed : (c : goal.After-greater-2) → c.greater-2.result ≡ passed_by c.args.width c.args.height c.args.rect
passed c =
    let r = c.args.rect in
    let xa = c.requires.rect.x1.above in
    let xb = c.requires.rect.x1.below in
    let ya = c.requires.rect.y1.above in
    let yb = c.requires.rect.y1.below in
    let va = c.requires.rect.x2.above in
    let vb = c.requires.rect.x2.below in
    let wa = c.requires.rect.y2.above in
    let wb = c.requires.rect.y2.below in
    let a = c.requires.width.above in
    let b = c.requires.width.below in
    let d = c.requires.height.above in
    let e = c.requires.height.below in
    let x1 : to_z w64 (of_z w64 (pos 0 -ℤ to_z w64 (of_z w64 c.args.rect.x1))) ≡ pos 0 -ℤ c.args.rect.x1 = omega (arith, ints, xa, xb) in
    let y1 : to_z w64 (of_z w64 (pos 0 -ℤ to_z w64 (of_z w64 c.args.rect.y1))) ≡ pos 0 -ℤ c.args.rect.y1 = omega (arith, ints, ya, yb) in
    let x2 : to_z w64 (of_z w64 (to_z w64 (of_z w64 c.args.rect.x2) -ℤ to_z w64 (of_z w64 c.args.width))) ≡ c.args.rect.x2 -ℤ c.args.width = omega (arith, ints, va, vb, a, b) in
    let y2 : to_z w64 (of_z w64 (to_z w64 (of_z w64 c.args.rect.y2) -ℤ to_z w64 (of_z w64 c.args.height))) ≡ c.args.rect.y2 -ℤ c.args.height = omega (arith, ints, wa, wb, d, e) in
    let low : c.greater-low.result ≡ int_max (pos 0 -ℤ c.args.rect.x1) (pos 0 -ℤ c.args.rect.y1) = max_as c.greater-low.result _ _ (pos 0 -ℤ c.args.rect.x1) (pos 0 -ℤ c.args.rect.y1) c.greater-low.ensures x1 y1 in
    let high : c.greater-high.result ≡ int_max (c.args.rect.x2 -ℤ c.args.width) (c.args.rect.y2 -ℤ c.args.height) = max_as c.greater-high.result _ _ (c.args.rect.x2 -ℤ c.args.width) (c.args.rect.y2 -ℤ c.args.height) c.greater-high.ensures x2 y2 in
    let low_above = at_least_left (pos 0 -ℤ c.args.rect.x1) (pos 0 -ℤ c.args.rect.y1) c.greater-low.result low in
    let low_below = most_of (pos 0 -ℤ c.args.rect.x1) (pos 0 -ℤ c.args.rect.y1) c.greater-low.result (pos (2 ^ 42)) low (omega (arith, ints, xa)) (omega (arith, ints, ya)) in
    let high_above = at_least_left (c.args.rect.x2 -ℤ c.args.width) (c.args.rect.y2 -ℤ c.args.height) c.greater-high.result high in
    let high_below = most_of (c.args.rect.x2 -ℤ c.args.width) (c.args.rect.y2 -ℤ c.args.height) c.greater-high.result (pos (2 ^ 42)) high (omega (arith, ints, vb, a)) (omega (arith, ints, wb, d)) in
    let read_low : to_z w64 (of_z w64 c.greater-low.result) ≡ c.greater-low.result = omega (arith, ints, low_above, low_below, xb) in
    let read_high : to_z w64 (of_z w64 c.greater-high.result) ≡ c.greater-high.result = omega (arith, ints, high_above, high_below, va, b) in
    let inner : c.greater.result ≡ int_max c.greater-low.result c.greater-high.result = max_as c.greater.result _ _ c.greater-low.result c.greater-high.result c.greater.ensures read_low read_high in
    let inner_above = at_least_left c.greater-low.result c.greater-high.result c.greater.result inner in
    let inner_below = most_of c.greater-low.result c.greater-high.result c.greater.result (pos (2 ^ 42)) inner low_below high_below in
    let inner_floor = at_most (pos 0 -ℤ c.args.rect.x1) c.greater-low.result c.greater.result low_above inner_above in
    let read_inner = read_back c.greater.result (floor_of c.args.rect.x1 c.greater.result inner_floor xb) inner_below in
    let result : c.greater-2.result ≡ int_max (pos 0) c.greater.result = max_as c.greater-2.result (pos 0) _ (pos 0) c.greater.result c.greater-2.ensures refl read_inner in
    passed_is c.args.width c.args.height c.args.rect c.greater-low.result c.greater-high.result c.greater.result c.greater-2.result low high inner result

near : (c : goal.After-greater-2) → IsNearLength c.greater-2.result
near c = passed_near c.args.width c.args.height c.args.rect c.greater-2.result c.requires.width c.requires.height c.requires.rect (passed c)

pub returns-clause-is : goal.returns-clause-is
returns-clause-is c = read_near c.greater-2.result (near c) ∙ passed c

pub returns-clause-near : goal.returns-clause-near
returns-clause-near c = subst IsNearLength (sym (read_near c.greater-2.result (near c))) (near c)
