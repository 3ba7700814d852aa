use Rattle.std.proofs.Common.{◌≡◌, ◌+◌, map, length, sym, subst, ◌∙◌, arith}
use Rattle.std.proofs.lemmas.List.{length-map}
use Rattle.std.proofs.lemmas.Option.{slice_get_within}
use Rattle.device_lvs.specs.Sorted.{IsLeastJoined, AreNotJoinedBelow, names_at, net_first}
use Rattle.device_lvs.proofs.SortedLaws.{least_names, none_joined}
use Rattle.device_lvs.proofs.joined.least_joined.Goals as goal

pub names_at-requires : goal.names_at-requires
names_at-requires c =
    let least : IsLeastJoined (map net_first c.deref.result.now) (length c.deref.result.now) c.in-Some.place = c.in-Some.ensures in
    let inside = slice_get_within (map net_first c.deref.result.now) (c.in-Some.place + 1) least.joined.other least.joined.at.next in
    let long = length-map c.deref.result.now net_first in
    let before = c.deref.ensures.len in
    let after = c.deref-in-Some.ensures.len in
    omega (arith, inside, long, before, after)

pub returns-in-Some : goal.returns-in-Some
returns-in-Some c =
    let sorted = c.in_ok-sorted.sorted.items in
    let pair = c.in_ok-names_at-in-Some.field-0 in
    let least : IsLeastJoined (map net_first sorted) (length sorted) c.in-Some.place = rw c.deref.ensures.value at c.in-Some.ensures in
    let is : pair ≡ names_at (map net_first sorted) c.in-Some.place = rw c.deref-in-Some.ensures.value at c.in_ok-names_at-in-Some.ensures in
    let long = length-map sorted net_first in
    least_names c.args.names.now (map net_first sorted) (length sorted) c.in-Some.place pair c.in_ok-sorted.ensures (omega (arith, long)) least is

pub returns : goal.returns
returns c =
    let sorted = c.in_ok-sorted.sorted.items in
    let none : AreNotJoinedBelow (map net_first sorted) (length sorted) = rw c.deref.ensures.value at c.in-None.ensures in
    none_joined c.args.names.now (map net_first sorted) c.in_ok-sorted.ensures (subst (AreNotJoinedBelow (map net_first sorted)) (sym (length-map sorted net_first)) none)
