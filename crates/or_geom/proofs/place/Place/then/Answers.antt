-- A turn of a sum is the sum of the turns.
use Rattle.or_geom.proofs.PlaceLaws.{placed_after, after_within}
use Rattle.or_geom.proofs.place.Place.then.Goals as goal

pub returns : goal.returns
returns c = record {
  applied = placed_after c.args.self.now c.args.inner (record { orient = c.turn_after.result; at = c.point_at.result }) c.turn_after.ensures c.point_at.ensures;
  bound = after_within c.args.self.now c.args.inner c.point_at.result c.point_at.ensures;
}
