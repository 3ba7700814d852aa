use Rattle.std.proofs.Common.{refl, sym, ap, ◌∙◌, ◌≡◌, Option, length}
use Rattle.std.proofs.lemmas.Result.{IfOk-weaker}
use Rattle.tile_checker.specs.declared.violation.Violation.{Violation}
use Rattle.tile_checker.proofs.FirstFoundLaws.{AreFirstOfShares, first_of_report, workers_first}
use Rattle.tile_checker.proofs.ReportLaws.{minimums}
use Rattle.tile_checker.proofs.first_found.first_by.Goals as goal

pub returns : goal.returns
returns g c =
    let rules = c.args.tech.now.rules in
    let shapes = c.args.bins.now in
    let results = c.in_ok-results.results.items in
    let least = minimums c.args.tech.now.layers rules rules refl c.requires.tech.rules in
    let shares : AreFirstOfShares rules shapes c.args.tiles.now c.args.count results = λ worker d lt. (c.in_ok-results.ensures.each worker d lt).1.met in
    let count : length results ≡ c.args.count = sym (ap length c.deref.ensures.value) ∙ (c.deref.ensures.len ∙ c.in_ok-results.ensures.len) in
    IfOk-weaker _ _ _ (λ (found : Option Violation) u.
    first_of_report rules shapes found least c.requires.reach
    (workers_first rules shapes c.args.tiles.now c.args.count results least c.requires.tiles c.requires.some count shares found (rw c.deref.ensures.value at u))) c.first_of_all.ensures
