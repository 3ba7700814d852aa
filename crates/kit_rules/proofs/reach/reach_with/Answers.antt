use Rattle.std.proofs.Common.{ap, ◌∙◌, arith}
use Rattle.std.proofs.lemmas.Int.{ints}
use Rattle.kit_rules.specs.Reach.{greatest_minimum}
use Rattle.kit_rules.proofs.ReachLaws.{greatest_small}
use Rattle.kit_rules.proofs.reach.reach_with.Goals as goal

pub overflow_add-result : goal.overflow_add-result
overflow_add-result c =
    let small = greatest_small c.args.kit.now.tech.layers c.args.kit.now.tech.rules c.requires.kit.tech.rules in
    let is = c.greatest_minimum.ensures ∙ ap greatest_minimum c.as_slice.ensures in
    let a = small.above in
    let b = small.below in
    let d = c.requires.overhang.above in
    let e = c.requires.overhang.below in
    omega (arith, ints, is, a, b, d, e)

pub overflow_add-result-2 : goal.overflow_add-result-2
overflow_add-result-2 c =
    let small = greatest_small c.args.kit.now.tech.layers c.args.kit.now.tech.rules c.requires.kit.tech.rules in
    let is = c.greatest_minimum.ensures ∙ ap greatest_minimum c.as_slice.ensures in
    let a = small.above in
    let b = small.below in
    let d = c.requires.overhang.above in
    let e = c.requires.overhang.below in
    omega (arith, ints, is, a, b, d, e)

pub returns-clause-is : goal.returns-clause-is
returns-clause-is c =
    let small = greatest_small c.args.kit.now.tech.layers c.args.kit.now.tech.rules c.requires.kit.tech.rules in
    let is = c.greatest_minimum.ensures ∙ ap greatest_minimum c.as_slice.ensures in
    let a = small.above in
    let b = small.below in
    let d = c.requires.overhang.above in
    let e = c.requires.overhang.below in
    omega (arith, ints, is, a, b, d, e)

pub returns-clause-near : goal.returns-clause-near
returns-clause-near c =
    let small = greatest_small c.args.kit.now.tech.layers c.args.kit.now.tech.rules c.requires.kit.tech.rules in
    let is = c.greatest_minimum.ensures ∙ ap greatest_minimum c.as_slice.ensures in
    let a = small.above in
    let b = small.below in
    let d = c.requires.overhang.above in
    let e = c.requires.overhang.below in
    record { above = omega (arith, ints, is, a, b, d, e); below = omega (arith, ints, is, a, b, d, e) }
