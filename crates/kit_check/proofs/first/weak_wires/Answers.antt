use Rattle.std.proofs.Common.{◌≡◌, ℤ, w64, of_z, to_z, FitsSigned, refl, sym, ap, subst, ◌∙◌, arith}
use Rattle.std.proofs.lemmas.Int.{ints, to_z-of_z}
use Rattle.kit_rules.specs.Reach.{IsShortReach, reach_with}
use Rattle.kit_check.proofs.FirstLaws.{rules_good, joints_good, reach_good}
use Rattle.kit_check.proofs.first.weak_wires.Goals as goal

pub returns-then-not-is_short_reach : goal.returns-then-not-is_short_reach
returns-then-not-is_short_reach c =
    let kit = c.args.kit.now in
    let wire = c.wire_of-wire.result.now in
    let wired = c.wire_of-wire.ensures.is in
    let overhang = c.in_ok-overhang.overhang in
    let over = c.in_ok-overhang.ensures.near in
    let over_fits : FitsSigned w64 overhang = omega (arith, ints, over.above, over.below) in
    let same : to_z w64 (of_z w64 overhang) ≡ overhang = to_z-of_z w64 overhang over_fits in
    let near = c.reach_with-reach.ensures.near in
    let fits : FitsSigned w64 c.reach_with-reach.result = omega (arith, ints, near.above, near.below) in
    record {
      rules = rules_good kit wire c.as_slice.result.now wired c.as_slice.ensures c.in_default.ensures;
      joints = joints_good kit wire c.as_slice-2.result.now wired c.as_slice-2.ensures c.in_default-first_wrong_joint.ensures;
      wire = wire;
      wired = wired;
      overhang = overhang;
      is = c.in_ok-overhang.ensures.is;
      far = λ short. let yes = (c.if-not-is_short_reach.ensures wire wired).1 (subst (λ (z : ℤ). IsShortReach kit wire z) (sym same) short) in absurd cc;
      reach_is = to_z-of_z w64 c.reach_with-reach.result fits ∙ (c.reach_with-reach.ensures.is ∙ ap (λ (z : ℤ). reach_with kit z) same);
    }

pub returns : goal.returns
returns c =
    let kit = c.args.kit.now in
    let wire = c.wire_of-wire.result.now in
    let wired = c.wire_of-wire.ensures.is in
    let overhang = c.in_ok-overhang.overhang in
    let over = c.in_ok-overhang.ensures.near in
    let over_fits : FitsSigned w64 overhang = omega (arith, ints, over.above, over.below) in
    let same : to_z w64 (of_z w64 overhang) ≡ overhang = to_z-of_z w64 overhang over_fits in
    record {
      rules = rules_good kit wire c.as_slice.result.now wired c.as_slice.ensures c.in_default.ensures;
      joints = joints_good kit wire c.as_slice-2.result.now wired c.as_slice-2.ensures c.in_default-first_wrong_joint.ensures;
      reach = reach_good kit wire overhang wired c.in_ok-overhang.ensures.is (subst (λ (z : ℤ). IsShortReach kit wire z) same ((c.if-not-is_short_reach.ensures wire wired).0 refl));
    }
