use Rattle.std.proofs.Common.{length, refl, sym}
use Rattle.std.proofs.lemmas.Option.{slice_get_read}
use Rattle.tile_checker.proofs.BoxLaws.{nothing_seen}
use Rattle.tile_checker.proofs.ReportLaws.{minimums}
use Rattle.tile_checker.proofs.FirstFoundLaws.{all_tiles, next_tile, no_tiles, tile_passed}
use Rattle.tile_checker.proofs.first_share.first_of_share.Goals as goal

pub loop-index-init : goal.loop-index-init
loop-index-init c = record { first = no_tiles c.args.tech.now.rules c.args.bins.now c.args.tiles.now c.args.workers c.args.worker; seen = nothing_seen c.args.bins.now _ c.new-notes.ensures.wide c.new-notes.ensures.clear c.new-notes.ensures.candidates }

pub first_of_tile-requires-clause-minimums : goal.first_of_tile-requires-clause-minimums
first_of_tile-requires-clause-minimums c = minimums c.args.tech.now.layers c.args.tech.now.rules _ c.as_slice-rules.ensures c.requires.tech.rules

pub first_of_tile-requires-clause-tile : goal.first_of_tile-requires-clause-tile
first_of_tile-requires-clause-tile c = c.requires.tiles.tiling.reach _ (c.loop-index.index, c.loop-index-test.true, sym c.index-tiles-index.is)

pub loop-index-preserved-then-not-is_own : goal.loop-index-preserved-then-not-is_own
loop-index-preserved-then-not-is_own c = record {
  first = tile_passed c.args.tech.now.rules c.args.bins.now c.args.tiles.now c.args.workers c.args.worker c.loop-index.index c.loop-index.least (λ own. let yes = c.if-not-is_own.ensures.1 own in absurd cc) c.loop-index.invariant.first;
  seen = c.loop-index.invariant.seen;
}

pub loop-index-preserved : goal.loop-index-preserved
loop-index-preserved c = record {
  first = next_tile c.args.tech.now.rules c.args.bins.now c.args.tiles.now c.args.workers c.args.worker c.loop-index.index c.index-tiles-index.result c.loop-index.least _
      (slice_get_read c.args.tiles.now (length c.args.tiles.now) c.loop-index.index c.index-tiles-index.result refl c.loop-index-test.true c.index-tiles-index.is) (c.if-not-is_own.ensures.0 refl) c.loop-index.invariant.first
      (rw c.as_slice-rules.ensures at c.in_ok-least.ensures.first);
  seen = c.first_of_tile.ensures.seen;
}

pub returns : goal.returns
returns c = all_tiles c.args.tech.now.rules c.args.bins.now c.args.tiles.now c.args.workers c.args.worker c.loop-index.index c.loop-index.least c.loop-index-test.false c.loop-index.invariant.first
