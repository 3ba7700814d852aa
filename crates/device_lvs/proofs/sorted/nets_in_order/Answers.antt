use Rattle.std.proofs.Common.{List, map, ◌++◌, ap, ◌∙◌, refl}
use Rattle.device_lvs.specs.Sorted.{by_net, net_first}
use Rattle.device_lvs.proofs.SortedLaws.{in_order}
use Rattle.device_lvs.proofs.sorted.nets_in_order.Goals as goal

pub returns : goal.returns
returns c = in_order net_first by_net _ (λ a b. refl) c.args.names.now c.add_nets.new.sorted.items c.sort_unstable.new.self.items (c.in_ok-add_nets.ensures ∙ ap (λ (l : List _). map net_first l ++ c.args.names.now) c.new-sorted.ensures.items) c.sort_unstable.ensures.permutation c.sort_unstable.ensures.sorted
