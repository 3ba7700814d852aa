use Rattle.std.proofs.Common.{◌≡◌, to_z, of_z, w64, sym, subst, arith}
use Rattle.std.proofs.lemmas.Int.{ints}
use Rattle.cell_hierarchy.specs.Plain.{lists_of}
use Rattle.kit_rules.specs.Reach.{IsNearLength, IsOverhangWith}
use Rattle.kit_rules.proofs.ReachLaws.{overhang_with, is_greatest_as}
use Rattle.kit_rules.proofs.outlines.overhang_of.Goals as goal

pub returns-clause-is : goal.returns-clause-is
returns-clause-is c =
    let a = c.greatest_passed.ensures.near.above in
    let b = c.greatest_passed.ensures.near.below in
    let read : to_z w64 (of_z w64 c.greatest_passed.result) ≡ c.greatest_passed.result = omega (arith, ints, a, b) in
    let kit = c.args.kit.now in
    let leaf = c.leaf_of-leaf.result.now in
    let wa = c.leaf_of-leaf.ensures.near.width.above in
    let wb = c.leaf_of-leaf.ensures.near.width.below in
    let ha = c.leaf_of-leaf.ensures.near.height.above in
    let hb = c.leaf_of-leaf.ensures.near.height.below in
    let la = c.requires.least.above in
    let lb = c.requires.least.below in
    let w : to_z w64 (of_z w64 c.leaf_of-leaf.result.now.width) ≡ c.leaf_of-leaf.result.now.width = omega (arith, ints, wa, wb) in
    let h : to_z w64 (of_z w64 c.leaf_of-leaf.result.now.height) ≡ c.leaf_of-leaf.result.now.height = omega (arith, ints, ha, hb) in
    let l : to_z w64 (of_z w64 c.args.least) ≡ c.args.least = omega (arith, ints, la, lb) in
    subst (IsOverhangWith kit c.args.role c.args.least) (sym read) (overhang_with kit c.args.role leaf c.cell_of.result.now (lists_of c.in_ok-flat.flat) c.args.least c.greatest_passed.result c.leaf_of-leaf.ensures.is c.in_ok-flat.ensures.flat
    (is_greatest_as _ leaf.width _ leaf.height c.in_ok-flat.flat.shapes.now _ c.args.least c.greatest_passed.result w h l c.greatest_passed.ensures.is))

pub returns-clause-near : goal.returns-clause-near
returns-clause-near c =
    let a = c.greatest_passed.ensures.near.above in
    let b = c.greatest_passed.ensures.near.below in
    let read : to_z w64 (of_z w64 c.greatest_passed.result) ≡ c.greatest_passed.result = omega (arith, ints, a, b) in
    subst IsNearLength (sym read) c.greatest_passed.ensures.near
