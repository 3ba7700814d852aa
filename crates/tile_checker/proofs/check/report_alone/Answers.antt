use Rattle.std.proofs.Common.{refl}
use Rattle.tile_checker.proofs.ReportLaws.{minimums}
use Rattle.tile_checker.proofs.ViolationLaws.{same_violation}
use Rattle.tile_checker.proofs.ShareLaws.{alone_report}
use Rattle.tile_checker.proofs.check.report_alone.Goals as goal

pub returns : goal.returns
returns c =
    alone_report c.args.tech.now.rules c.args.bins.now c.args.tiles.now c.in_ok-list.list.items _ (minimums c.args.tech.now.layers c.args.tech.now.rules c.args.tech.now.rules refl c.requires.tech.rules) c.requires.tiles c.in_ok-list.ensures c.sort_distinct.ensures.rises
    (λ v. (λ h. c.sort_distinct.ensures.adds_none v h, λ h. c.sort_distinct.ensures.keeps same_violation v h))
