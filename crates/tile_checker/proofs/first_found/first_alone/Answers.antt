use Rattle.std.proofs.Common.{Option, refl}
use Rattle.std.proofs.lemmas.Result.{IfOk-weaker}
use Rattle.tile_checker.specs.declared.violation.Violation.{Violation}
use Rattle.tile_checker.proofs.FirstFoundLaws.{alone_first, first_of_report}
use Rattle.tile_checker.proofs.ReportLaws.{minimums}
use Rattle.tile_checker.proofs.first_found.first_alone.Goals as goal

pub returns : goal.returns
returns c =
    let rules = c.args.tech.now.rules in
    let shapes = c.args.bins.now in
    let least = minimums c.args.tech.now.layers rules rules refl c.requires.tech.rules in
    IfOk-weaker _ _ _ (λ (found : Option Violation) u. first_of_report rules shapes found least c.requires.reach (alone_first rules shapes c.args.tiles.now found least c.requires.tiles u)) c.first_of_share.ensures
