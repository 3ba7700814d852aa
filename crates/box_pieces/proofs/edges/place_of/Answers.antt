use Rattle.box_pieces.proofs.EdgeLaws.{place_found}
use Rattle.box_pieces.proofs.edges.place_of.Goals as goal

pub returns : goal.returns
returns c = place_found c.args.axis c.args.area c.args.boxes.now c.in_ok-places.places.items c.deref_mut.result.now c.middle.result c.in_ok-places.ensures c.deref_mut.ensures.value c.middle.ensures
