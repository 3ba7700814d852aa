use Rattle.std.proofs.Common.{refl, sym, ap, ◌∙◌, ◌≡◌, Vec, length}
use Rattle.std.specs.declared.alloc.Global.{Global}
use Rattle.std.proofs.lemmas.Result.{IfOk-weaker}
use Rattle.tile_checker.specs.declared.violation.Violation.{Violation}
use Rattle.tile_checker.proofs.ReportLaws.{minimums}
use Rattle.tile_checker.proofs.ShareLaws.{AreShares, union_report}
use Rattle.tile_checker.proofs.check.report_by.Goals as goal

pub returns : goal.returns
returns g c =
    let shares : AreShares c.args.tech.now.rules c.args.bins.now c.args.tiles.now c.args.count c.in_ok-lists.lists.items = λ worker d lt. (c.in_ok-lists.ensures.each worker d lt).1.met in
    let count : length c.in_ok-lists.lists.items ≡ c.args.count = sym (ap length c.deref.ensures.value) ∙ (c.deref.ensures.len ∙ c.in_ok-lists.ensures.len) in
    IfOk-weaker _ _ _ (λ (list : Vec Violation Global) u.
    union_report c.args.tech.now.rules c.args.bins.now c.args.tiles.now c.args.count c.in_ok-lists.lists.items list.items (minimums c.args.tech.now.layers c.args.tech.now.rules c.args.tech.now.rules refl c.requires.tech.rules) c.requires.tiles c.requires.some count
    shares (rw c.deref.ensures.value at u)) c.union_of.ensures
