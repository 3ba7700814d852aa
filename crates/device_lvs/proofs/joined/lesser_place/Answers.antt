use Rattle.std.proofs.Common.{◌≡◌, ◌+◌, map, length, sym, subst, ◌∙◌, arith}
use Rattle.std.proofs.lemmas.List.{length-map}
use Rattle.std.proofs.lemmas.Option.{slice_get_within}
use Rattle.device_lvs.specs.Sorted.{IsLeastJoined, AreLeastBelow, net_first}
use Rattle.device_lvs.proofs.PlaceLaws.{kept, first_joined, lesser_joined, clash}
use Rattle.device_lvs.proofs.joined.lesser_place.Goals as goal

pub returns-then-not-is_joined_at : goal.returns-then-not-is_joined_at
returns-then-not-is_joined_at c = kept (map net_first c.args.nets.now) c.args.place c.args.least c.requires.so_far (λ joined. clash c.is_joined_at.result c.if-not-is_joined_at.true (c.is_joined_at.ensures.no joined))

pub is_less_at-requires-clause-other : goal.is_less_at-requires-clause-other
is_less_at-requires-clause-other c =
    let so_far : IsLeastJoined (map net_first c.args.nets.now) c.args.place c.in-Some.other = subst (AreLeastBelow (map net_first c.args.nets.now) c.args.place) c.in-Some.is c.requires.so_far in
    let inside = slice_get_within (map net_first c.args.nets.now) (c.in-Some.other + 1) so_far.joined.other so_far.joined.at.next in
    let long = length-map c.args.nets.now net_first in
    omega (arith, inside, long)

pub returns-then-is_less_at : goal.returns-then-is_less_at
returns-then-is_less_at c =
    let so_far : IsLeastJoined (map net_first c.args.nets.now) c.args.place c.in-Some.other = subst (AreLeastBelow (map net_first c.args.nets.now) c.args.place) c.in-Some.is c.requires.so_far in
    lesser_joined (map net_first c.args.nets.now) c.args.place c.in-Some.other so_far (c.is_joined_at.ensures.yes c.if-not-is_joined_at.false) (sym c.is_less_at.ensures ∙ c.if-is_less_at.true)

pub returns-in-None : goal.returns-in-None
returns-in-None c = first_joined (map net_first c.args.nets.now) c.args.place (subst (AreLeastBelow (map net_first c.args.nets.now) c.args.place) c.in-None.is c.requires.so_far) (c.is_joined_at.ensures.yes c.if-not-is_joined_at.false)
