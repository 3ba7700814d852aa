use Rattle.device_lvs.specs.Sorted.{name_first}
use Rattle.device_lvs.proofs.PlaceLaws.{split_here, split_named, split_apart, unequal, not_tied}
use Rattle.device_lvs.proofs.split.is_split_at.Goals as goal

pub returns-then-are_same-clause-yes : goal.returns-then-are_same-clause-yes
returns-then-are_same-clause-yes c = λ differ. split_here name_first c.args.names.now c.args.place _ c.requires (c.are_same.ensures.0 c.if-are_same.true) (unequal _ _ differ)

pub returns-then-are_same-clause-no : goal.returns-then-are_same-clause-no
returns-then-are_same-clause-no c = λ split. not_tied _ _ (split_apart name_first c.args.names.now c.args.place _ c.requires split)

pub returns-else-are_same-clause-no : goal.returns-else-are_same-clause-no
returns-else-are_same-clause-no c = λ split. c.are_same.ensures.1 (split_named name_first c.args.names.now c.args.place _ c.requires split)
