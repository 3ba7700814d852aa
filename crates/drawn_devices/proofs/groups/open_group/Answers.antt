use Rattle.std.proofs.Common.{arith}
use Rattle.drawn_devices.proofs.GroupLaws.{opened_there, opened_next}
use Rattle.drawn_devices.proofs.groups.open_group.Goals as goal

pub returns-then-number-len : goal.returns-then-number-len
returns-then-number-len c = opened_there c.args.number c.args.groups.now.items (omega arith)

pub returns : goal.returns
returns c = opened_next c.args.number c.args.groups.now.items _ c.requires (omega arith) (rw c.new.ensures at c.in_ok-push.ensures.items)
