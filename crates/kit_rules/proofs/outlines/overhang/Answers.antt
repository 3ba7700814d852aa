use Rattle.std.proofs.Common.{◌≡◌, ◌+◌, List, Some, to_z, of_z, w64, sym, subst, arith}
use Rattle.std.specs.Prelude.{slice_get}
use Rattle.std.proofs.lemmas.Int.{ints}
use Rattle.cell_roles.specs.declared.role.Role.{Role}
use Rattle.kit_rules.proofs.ReachLaws.{OverhangSoFar, overhang_more, overhang_ends}
use Rattle.kit_rules.proofs.outlines.overhang.Goals as goal

pub loop-index-preserved : goal.loop-index-preserved
loop-index-preserved c =
    let next = c.in_ok-greatest.greatest in
    let near = c.in_ok-greatest.ensures.near in
    let a = near.above in
    let b = near.below in
    let read : to_z w64 (of_z w64 c.in_ok-greatest.greatest) ≡ c.in_ok-greatest.greatest = omega (arith, ints, a, b) in
    let here = subst (λ (l : List Role). slice_get l c.loop-index.index ≡ Some c.role_at.result) c.all-all.ensures c.role_at.ensures in
    subst (OverhangSoFar c.args.kit.now (c.loop-index.index + 1)) (sym read) (overhang_more c.args.kit.now c.loop-index.index c.role_at.result (to_z w64 c.loop-index.greatest-bits) c.in_ok-greatest.greatest here near c.in_ok-greatest.ensures.is c.loop-index.invariant)

pub returns-clause-is : goal.returns-clause-is
returns-clause-is c = overhang_ends c.args.kit.now c.loop-index.index (to_z w64 c.loop-index.greatest-bits) c.loop-index-test.false c.loop-index.invariant

pub returns-clause-near : goal.returns-clause-near
returns-clause-near c = c.loop-index.invariant.near
