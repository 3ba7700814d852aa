use Rattle.std.proofs.Common.{◌+◌, ◌∙◌, get_or, drop}
use Rattle.std.proofs.lemmas.List.{drop_all}
use Rattle.net_extractor.specs.RunPairs.{IsOverPairOf}
use Rattle.or_geom.proofs.ListLaws.{rest_item}
use Rattle.net_extractor.proofs.JoinLaws.{joining_begins, joining_goes_on, joining_ends}
use Rattle.net_extractor.proofs.roots.join_over_layers.Goals as goal

pub loop-layer-init : goal.loop-layer-init
loop-layer-init c = record {
  joining = joining_begins (IsOverPairOf c.args.forest.shapes.now c.args.own.now) c.args.layers.now c.args.above.now c.requires.sets.falls;
  marked = c.requires.sets.marked;
}

pub join_over_layer-requires-clause-sets : goal.join_over_layer-requires-clause-sets
join_over_layer-requires-clause-sets c = record {
  forest = c.requires.sets.forest;
  sized = c.loop-layer.invariant.joining.sized ∙ c.requires.sets.sized;
  falls = c.loop-layer.invariant.joining.falls;
  marked = c.loop-layer.invariant.marked;
}

pub loop-layer-preserved : goal.loop-layer-preserved
loop-layer-preserved c =
    let layers = c.args.layers.now in
    let k = c.loop-layer.layer-index in
    record {
      joining = joining_goes_on (IsOverPairOf c.args.forest.shapes.now c.args.own.now) layers _ (drop (k + 1) layers) (get_or layers k 0) _ _ _ (rest_item layers k 0 c.loop-layer-test.true) c.loop-layer.invariant.joining
          c.in_ok-join_over_layer.ensures.joins;
      marked = c.in_ok-join_over_layer.ensures.marked;
    }

pub returns : goal.returns
returns c = record {
  joins = joining_ends (IsOverPairOf c.args.forest.shapes.now c.args.own.now) c.args.layers.now _ _ _ (drop_all c.loop-layer.layer-index c.args.layers.now c.loop-layer-test.false) c.loop-layer.invariant.joining;
  marked = c.loop-layer.invariant.marked;
}
