use Rattle.std.proofs.Common.{◌∙◌, sym, ap}
use Rattle.or_geom.specs.declared.place.Orient.TheVariants.{R0}
use Rattle.or_geom.specs.Place.{placed}
use Rattle.or_geom.proofs.PlaceLaws.{origin}
use Rattle.cell_hierarchy.proofs.MovedLaws.{origin_at}
use Rattle.cell_hierarchy.proofs.own.point_at.Goals as goal

pub returns : goal.returns
returns c = sym (origin_at c.then.result) ∙ (c.then.ensures.applied origin ∙ ap (placed c.args.place) (origin_at (record { orient = R0; at = c.args.p })))
