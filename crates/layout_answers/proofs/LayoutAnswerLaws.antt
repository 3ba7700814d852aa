-- Each layout has a report, nets and a comparison, or a fault.
use Rattle.std.proofs.Common.{inl, inr, List, Some, None}
use Rattle.std.specs.Prelude.{All}
use Rattle.tech_rules.specs.declared.tech.Layer.{Layer}
use Rattle.tech_rules.specs.declared.tech.Rule.{Rule}
use Rattle.tech_rules.specs.declared.tech.Rule.TheVariants.{Width, Space, Enclose}
use Rattle.tech_rules.specs.Facts.{IsRule}
use Rattle.cell_hierarchy.proofs.FlatNearLaws.{flat_near}
use Rattle.tile_checker.specs.Minimum.{HasMinimum}
use Rattle.tile_checker.specs.OneReport.{ReportsAreThere}
use Rattle.flat_answers.proofs.FlatAnswerLaws.{flat_shapes_or_fault, flat_lists_or_fault}
use Rattle.net_answers.proofs.NumberedLaws.{nets_are_there}
use Rattle.net_answers.proofs.DifferThereLaws.{alike_or_different}
use Rattle.layout_answers.specs.LayoutAnswers.{LayoutsHaveReports, LayoutsHaveNets, LayoutsHaveComparisons}

-- The minimums of a technology's rules are ones that a checker takes.
has_minimum : (layers : List Layer) (rule : Rule) → IsRule layers rule → HasMinimum rule
has_minimum layers (Width layer min) is = record { positive = is.min.from; bounded = is.min.to }
has_minimum layers (Space layer other min) is = record { positive = is.min.from; bounded = is.min.to }
has_minimum layers (Enclose layer by min) is = record { positive = is.min.from; bounded = is.min.to }

minimums : (layers : List Layer) (rules : List Rule) → All (IsRule layers) rules → All HasMinimum rules
minimums layers rules all k d lt = has_minimum layers _ (all k d lt)

pub layouts_have_reports : ReportsAreThere → LayoutsHaveReports
layouts_have_reports reports tech structs top is writable = elim (flat_shapes_or_fault tech.layers structs top writable) [
  | inr fault ↦ inr fault
  | inl flat ↦
      let report = reports tech.rules flat.0 (minimums tech.layers tech.rules is.rules) (flat_near tech.layers structs top flat.0 flat.1) in
      inl (record { shapes = flat.0; flat = flat.1; violations = report.0; report = report.1 })
]

pub layouts_have_nets : LayoutsHaveNets
layouts_have_nets tech structs top writable = elim (flat_lists_or_fault tech.layers structs top writable) [
  | inr fault ↦ inr fault
  | inl flat ↦ let nets = nets_are_there tech flat.0.shapes flat.0.labels in
      inl (record { lists = flat.0; flat = flat.1; nets = nets.0; are = nets.1 })
]

pub layouts_have_comparisons : LayoutsHaveComparisons
layouts_have_comparisons tech structs top rows writable = elim (layouts_have_nets tech structs top writable) [
  | inr fault ↦ inr fault
  | inl nets ↦ elim (alike_or_different nets.nets rows) [
    | inl alike ↦ inl (record { nets = nets; difference = None; is = alike })
    | inr d ↦ inl (record { nets = nets; difference = Some d.0; is = d.1 })
  ]
]
