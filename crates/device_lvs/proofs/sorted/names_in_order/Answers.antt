use Rattle.std.proofs.Common.{List, map, ◌++◌, ap, ◌∙◌, refl}
use Rattle.device_lvs.specs.Sorted.{by_name, name_first}
use Rattle.device_lvs.proofs.SortedLaws.{in_order}
use Rattle.device_lvs.proofs.sorted.names_in_order.Goals as goal

pub returns : goal.returns
returns c = in_order name_first by_name _ (λ a b. refl) c.args.names.now c.add_names.new.sorted.items c.sort_unstable.new.self.items (c.in_ok-add_names.ensures ∙ ap (λ (l : List _). map name_first l ++ c.args.names.now) c.new-sorted.ensures.items) c.sort_unstable.ensures.permutation c.sort_unstable.ensures.sorted
