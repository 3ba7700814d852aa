use Rattle.std.proofs.Common.{◌≡◌, Bool, true, false}
use Rattle.device_lvs.specs.Sorted.{net_first}
use Rattle.device_lvs.proofs.PlaceLaws.{joined_here, joined_net, joined_apart, tied, not_both, if_not}
use Rattle.device_lvs.proofs.joined.is_joined_at.Goals as goal

pub returns-then-net-next-clause-yes : goal.returns-then-net-next-clause-yes
returns-then-net-next-clause-yes c = λ differ. joined_here net_first c.args.nets.now c.args.place _ c.requires c.if-net-next.true (λ e. not_both c.are_same.result (c.are_same.ensures.1 e) differ)

pub returns-then-net-next-clause-no : goal.returns-then-net-next-clause-no
returns-then-net-next-clause-no c = λ joined. if_not c.are_same.result (λ same. joined_apart net_first c.args.nets.now c.args.place _ c.requires joined (c.are_same.ensures.0 same))

pub returns-else-net-next-clause-no : goal.returns-else-net-next-clause-no
returns-else-net-next-clause-no c = λ joined. tied _ _ (joined_net net_first c.args.nets.now c.args.place _ c.requires joined)
