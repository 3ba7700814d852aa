use Rattle.shape_bins.proofs.ForestLaws.{place_within, placed_is}
use Rattle.shape_bins.proofs.forest.placed_at.Goals as goal

pub bounds-forest-place : goal.bounds-forest-place
bounds-forest-place c = place_within c.args.forest.shapes.now c.args.forest.places.now c.args._node c.args.at c.requires.over c.requires.from c.requires.to

pub returns : goal.returns
returns c = placed_is c.args.forest.shapes.now c.args.forest.places.now c.args._node c.args.at _ c.requires.over c.requires.from c.requires.to
