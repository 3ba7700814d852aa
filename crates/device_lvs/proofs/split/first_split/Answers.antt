use Rattle.std.proofs.Common.{map, length, subst, arith}
use Rattle.std.proofs.lemmas.List.{length-map}
use Rattle.device_lvs.specs.Sorted.{AreNotSplitBelow, name_first}
use Rattle.device_lvs.proofs.PlaceLaws.{not_split_at_end}
use Rattle.device_lvs.proofs.split.first_split.Goals as goal

pub returns : goal.returns
returns c =
    let past = c.loop-place-test.false in
    let long = length-map c.args.names.now name_first in
    subst (AreNotSplitBelow (map name_first c.args.names.now)) long (not_split_at_end (map name_first c.args.names.now) c.loop-place.place (omega (arith, past, long)) c.loop-place.invariant)
