use Rattle.std.proofs.Common.{ap, ◌∙◌}
use Rattle.device_lvs.proofs.LookupLaws.{same_numbers, firsts}
use Rattle.device_lvs.proofs.lookup.table_of.Goals as goal

pub returns-clause-search : goal.returns-clause-search
returns-clause-search c = record { rise = c.in_ok-named.ensures.rise; nets = c.in_ok-nets.ensures ∙ ap firsts c.deref.ensures.value ∙ same_numbers c.in_ok-named.named.items }
