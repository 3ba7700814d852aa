use Rattle.std.proofs.Common.{sym, ◌∙◌}
use Rattle.device_lvs.specs.Sorted.{net_first}
use Rattle.device_lvs.proofs.PlaceLaws.{names_are}
use Rattle.device_lvs.proofs.joined.names_at.Goals as goal

pub returns : goal.returns
returns c = (λ i. (c.in_ok-first.ensures i, c.in_ok-second.ensures i)) ∙ sym (names_are net_first c.args.nets.now c.args.place _ c.requires)
