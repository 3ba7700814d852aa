use Rattle.parallel_nets.proofs.PlaceLaws.{places_of_parts}
use Rattle.parallel_nets.proofs.nets.places_of.Goals as goal

pub returns : goal.returns
returns g c =
    places_of_parts c.args.bins.now c.args.labels.now _ _ _ c.in_ok-places.places.items c.in_ok-places.others.items _ _ c.split_at.ensures.front c.split_at.ensures.back
    c.in_ok-extend_from_slice.ensures.items c.deref.ensures.value c.in_ok-places.ensures.both
