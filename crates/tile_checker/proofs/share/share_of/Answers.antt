use Rattle.std.proofs.Common.{List, [], refl, sym, subst}
use Rattle.or_geom.specs.Adds.{Adds}
use Rattle.tile_checker.specs.declared.violation.Violation.{Violation}
use Rattle.tile_checker.proofs.BoxLaws.{nothing_seen}
use Rattle.tile_checker.proofs.ReportLaws.{minimums}
use Rattle.tile_checker.proofs.FirstLaws.{IsOwnBelow, own_begins, own_passes, own_goes_on, own_share}
use Rattle.tile_checker.proofs.share.share_of.Goals as goal

pub loop-index-init : goal.loop-index-init
loop-index-init c = record {
  adds = subst (λ (l : List Violation). Adds [] l (IsOwnBelow c.args.tech.now.rules c.args.bins.now c.args.tiles.now c.args.workers c.args.worker 0)) (sym c.new-notes.ensures.found)
      (own_begins c.args.tech.now.rules c.args.bins.now c.args.tiles.now c.args.workers c.args.worker);
  seen = nothing_seen c.args.bins.now _ c.new-notes.ensures.wide c.new-notes.ensures.clear c.new-notes.ensures.candidates;
}

pub add_of_tile-requires-clause-minimums : goal.add_of_tile-requires-clause-minimums
add_of_tile-requires-clause-minimums c = minimums c.args.tech.now.layers c.args.tech.now.rules _ c.as_slice-rules.ensures c.requires.tech.rules

pub add_of_tile-requires-clause-tile : goal.add_of_tile-requires-clause-tile
add_of_tile-requires-clause-tile c = c.requires.tiles.tiling.reach _ (c.loop-index.index, c.loop-index-test.true, sym c.index-tiles-index.is)

pub loop-index-preserved-then-not-is_own : goal.loop-index-preserved-then-not-is_own
loop-index-preserved-then-not-is_own c = record {
  adds = own_passes c.args.tech.now.rules c.args.bins.now c.args.tiles.now c.args.workers c.args.worker c.loop-index.index _ (λ own. let yes = c.if-not-is_own.ensures.1 own in absurd cc) c.loop-index.invariant.adds;
  seen = c.loop-index.invariant.seen;
}

pub loop-index-preserved : goal.loop-index-preserved
loop-index-preserved c = record {
  adds = own_goes_on c.args.tech.now.rules c.args.bins.now c.args.tiles.now c.args.workers c.args.worker c.loop-index.index c.index-tiles-index.result _ _ c.loop-index-test.true c.index-tiles-index.is (c.if-not-is_own.ensures.0 refl)
      c.loop-index.invariant.adds (rw c.as_slice-rules.ensures at c.in_ok-add_of_tile.ensures.adds);
  seen = c.add_of_tile.ensures.seen;
}

pub returns : goal.returns
returns c = own_share c.args.tech.now.rules c.args.bins.now c.args.tiles.now c.args.workers c.args.worker c.loop-index.index _ c.loop-index-test.false c.loop-index.invariant.adds
