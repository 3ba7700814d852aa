use Rattle.std.proofs.Common.{◌≡◌, map, length, sym, subst, ◌∙◌}
use Rattle.std.proofs.lemmas.List.{length-map}
use Rattle.device_lvs.specs.Sorted.{IsFirstSplit, AreNotSplitBelow, name_first}
use Rattle.device_lvs.proofs.PlaceLaws.{item_is}
use Rattle.device_lvs.proofs.SortedLaws.{first_is_least, none_split}
use Rattle.device_lvs.proofs.split.least_split.Goals as goal

pub returns-in-Some : goal.returns-in-Some
returns-in-Some c =
    let sorted = c.in_ok-sorted.sorted.items in
    let place = c.in-Some.place in
    let first : IsFirstSplit (map name_first sorted) place = rw c.deref.ensures.value at c.in-Some.ensures in
    let here = item_is name_first sorted place c.index.result.now first.split.one first.split.at.here c.index.ensures in
    rw c.in_ok-from_bytes-in-Some.ensures (first_is_least c.args.names.now (map name_first sorted) place (name_first c.index.result.now) c.in_ok-sorted.ensures first here)

pub returns : goal.returns
returns c =
    let sorted = c.in_ok-sorted.sorted.items in
    let none : AreNotSplitBelow (map name_first sorted) (length sorted) = rw c.deref.ensures.value at c.in-None.ensures in
    none_split c.args.names.now (map name_first sorted) c.in_ok-sorted.ensures (subst (AreNotSplitBelow (map name_first sorted)) (sym (length-map sorted name_first)) none)
