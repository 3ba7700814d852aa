use Rattle.std.proofs.Common.{◌≡◌, List, Some, subst, arith}
use Rattle.std.specs.Prelude.{slice_get}
use Rattle.cell_roles.specs.declared.role.Role.{Role}
use Rattle.leaf_nets.specs.Leaves.{IsLeafNets}
use Rattle.leaf_nets.proofs.KitLaws.{kit_more, kit_ends}
use Rattle.leaf_nets.proofs.leaves.kit_nets.Goals as goal

pub loop-index-preserved : goal.loop-index-preserved
loop-index-preserved c =
    let role = c.role_at-role.result in
    let here = subst (λ (l : List Role). slice_get l c.loop-index.index ≡ Some c.role_at-role.result) c.all-all.ensures c.role_at-role.ensures in
    let found = subst (IsLeafNets c.args.kit.now c.role_at-role.result) c.in-Loose.is c.in_ok-pin.ensures in
    kit_more c.args.kit.now c.loop-index.index role c.in-Loose.leaf c.loop-index.leaves.items c.push.new.self.items here c.in_ok-push-in-Loose.ensures.items found.0 found.1 c.loop-index.invariant

pub returns : goal.returns
returns c =
    let over = c.loop-index-test.false in
    let within = c.loop-index.auto.index-end in
    let all : c.loop-index.index ≡ 14 = omega (arith, over, within) in
    kit_ends c.args.kit.now c.loop-index.index c.loop-index.leaves.items all c.loop-index.invariant
