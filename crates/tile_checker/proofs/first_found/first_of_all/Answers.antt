use Rattle.std.proofs.Common.{None, arith, length, refl}
use Rattle.std.proofs.lemmas.Option.{slice_get_read}
use Rattle.tile_checker.specs.Earliest.{HasFirstAt}
use Rattle.tile_checker.proofs.EarliestLaws.{below_begins, below_goes_on}
use Rattle.tile_checker.proofs.FirstFoundLaws.{next_found, one_more, results_end}
use Rattle.tile_checker.proofs.first_found.first_of_all.Goals as goal

pub loop-found-init : goal.loop-found-init
loop-found-init c = record { there = λ k own lt at. absurd (omega (arith, lt)); first = below_begins None (HasFirstAt c.args.results.now) }

pub loop-found-preserved : goal.loop-found-preserved
loop-found-preserved c =
    let n = c.loop-found.found-index in
    let stands = slice_get_read c.args.results.now (length c.args.results.now) n c.found-item.result refl c.loop-found-test.true c.found-item.is in
    record {
      there = one_more c.args.results.now n c.found-item.result stands c.in_ok-least.ensures.there c.loop-found.invariant.there;
      first = below_goes_on None c.loop-found.least _ (HasFirstAt c.args.results.now) n c.loop-found.invariant.first (next_found c.args.results.now n c.found-item.result c.loop-found.least _ stands c.in_ok-least.ensures.first);
    }

pub returns : goal.returns
returns c = results_end c.args.results.now c.loop-found.found-index c.loop-found.least c.loop-found-test.false c.loop-found.invariant.there c.loop-found.invariant.first
