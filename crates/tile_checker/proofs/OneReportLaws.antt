-- Rules and shapes have one report.
use Rattle.std.specs.Cmp.{IsTotalOrder}
use Rattle.std.specs.Cmp.Lexicographic.{options_total}
use Rattle.std.proofs.lemmas.Cmp.{on_total, then_total, nat_cmp_total}
use Rattle.or_geom.proofs.ShapeOrderLaws.{shape_total}
use Rattle.or_geom.proofs.OneListLaws.{one_list}
use Rattle.tile_checker.specs.declared.violation.Violation.{Violation}
use Rattle.tile_checker.specs.RuleReport.{violation_order}
use Rattle.tile_checker.specs.OneReport.{ReportsAreUnique}

-- the order of violations is total
pub violation_total : IsTotalOrder violation_order
violation_total = then_total (on_total (λ (v : Violation). v.rule) nat_cmp_total) (then_total (on_total (λ (v : Violation). v.first) shape_total) (on_total (λ (v : Violation). v.second) (options_total shape_total)))

-- the reports are in one order and hold the same violations
pub one_report : ReportsAreUnique
one_report rules shapes a b is_a is_b =
    one_list violation_order violation_total a b is_a.rises is_b.rises (record { there = λ v h. is_b.each v (is_a.only v h); back = λ v h. is_a.each v (is_b.only v h) })
