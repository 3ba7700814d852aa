-- The work on a layout has an outcome.
use Rattle.std.proofs.Common.{◌≢◌, inl, inr, List, Result, Ok, Err, refl, arith}
use Rattle.tile_checker.specs.OneReport.{ReportsAreThere}
use Rattle.cell_hierarchy.specs.FlatLists.{AreFlatShapes, AreFlatLists, IsFault}
use Rattle.cell_hierarchy.specs.Plain.{FlatLists}
use Rattle.cell_hierarchy.specs.declared.fault.FlattenFault.{FlattenFault}
use Rattle.cell_hierarchy.specs.declared.fault.FlattenFault.TheVariants as flatten_fault
use Rattle.netlist.specs.declared.deck.Deck.{Deck}
use Rattle.netlist.specs.declared.rows.Rows.{Rows}
use Rattle.netlist.specs.declared.rows.RowPin.{RowPin}
use Rattle.spice_netlist.specs.declared.fault.FlatFault.{FlatFault}
use Rattle.spice_netlist.specs.declared.fault.FlatFault.TheVariants as rows_fault
use Rattle.spice_netlist.specs.Faults.{AreFlatRows, IsFlatFault}
use Rattle.flat_answers.specs.FlatAnswers.{HasFault}
use Rattle.layout_answers.proofs.LayoutAnswerLaws.{layouts_have_reports, layouts_have_nets, layouts_have_comparisons}
use Rattle.reply_lines.specs.declared.refusal.Refusal.{Refusal}
use Rattle.reply_lines.specs.declared.refusal.Refusal.TheVariants as refusal_of
use Rattle.reply_lines.specs.declared.reply.Reply.{Reply}
use Rattle.reply_lines.specs.Differences.{comparison_reply}
use Rattle.reply_lines.specs.NetLines.{nets_reply}
use Rattle.reply_lines.specs.Reply.{report_reply}
use Rattle.command_steps.specs.Once.{IsLow}
use Rattle.command_steps.specs.Outcome.{WithoutRefusal, ValueOrFault, Then}
use Rattle.openram_cli.specs.declared.inputs.LayoutInput.{LayoutInput}
use Rattle.openram_cli.specs.Inputs.{IsReadLayout}
use Rattle.openram_cli.specs.Answer.{AreFlatShapesOf, AreFlat, AreLeafRows, leaves_of, IsReported, IsNetListing, IsCompared, IsCompareAnswer}
use Rattle.row_answers.proofs.AnswerLaws.{row_answers_are_there}
use Rattle.design_answers.specs.DesignAnswers.{HasOutcome}
use Rattle.design_answers.proofs.StepLaws.{after, answered_value}
use Rattle.openram_cli.specs.Outcomes.{ChecksHaveOutcomes, ListingsHaveOutcomes, ComparisonsHaveOutcomes}

-- A fault ends the work.
then_fault : {X Y F : Type 0} (V : X → Type 0) (P : F → Type 0) (say : F → Refusal) (Q : X → Result Y Refusal → Type 0) (fault : F)
    → IsLow (say fault) → P fault → HasOutcome (Then (ValueOrFault V P say) Q)
then_fault V P say Q fault low is = (Err (say fault), low, inl (fault, is, refl))

flatten_low : (f : FlattenFault) → f ≢ flatten_fault.Memory → IsLow (refusal_of.Flatten f)
flatten_low (flatten_fault.UnknownStruct name) known = omega arith
flatten_low (flatten_fault.Cycle name) known = omega arith
flatten_low (flatten_fault.TooDeep depth) known = omega arith
flatten_low (flatten_fault.TooMany shapes labels) known = omega arith
flatten_low (flatten_fault.Far x y) known = omega arith
flatten_low flatten_fault.Memory known = absurd (known refl)

module _ (layout : LayoutInput) where
  abbrev IsBad : FlattenFault → Type 0
  IsBad = IsFault layout.tech.layers layout.lib.structs layout.top

  unflat : {X Y : Type 0} (V : X → Type 0) (Q : X → Result Y Refusal → Type 0) → HasFault layout.tech.layers layout.lib.structs layout.top
      → HasOutcome (Then (ValueOrFault V IsBad refusal_of.Flatten) Q)
  unflat V Q fault = then_fault V IsBad refusal_of.Flatten Q fault.0 (flatten_low fault.0 fault.1) fault.2

pub checks_have_outcomes : ReportsAreThere → ChecksHaveOutcomes
checks_have_outcomes reports layout sound =
    let V = AreFlatShapes layout.tech.layers layout.lib.structs layout.top in
    elim (layouts_have_reports reports layout.tech layout.lib.structs layout.top sound.tech sound.writable.cells) [
      | inr fault ↦ unflat layout V (λ shapes. WithoutRefusal (IsReported layout.tech shapes)) fault
      | inl r ↦
          after (AreFlatShapesOf layout) (λ shapes. WithoutRefusal (IsReported layout.tech shapes)) r.shapes r.flat
          (answered_value (IsReported layout.tech r.shapes) (report_reply layout.tech.layers r.violations) (r.violations, r.report, refl))
    ]

pub listings_have_outcomes : ListingsHaveOutcomes
listings_have_outcomes layout sound =
    let V = AreFlatLists layout.tech.layers layout.lib.structs layout.top in
    elim (layouts_have_nets layout.tech layout.lib.structs layout.top sound.writable.cells) [
      | inr fault ↦ unflat layout V (λ lists. WithoutRefusal (IsNetListing layout.tech lists)) fault
      | inl n ↦
          after (AreFlat layout) (λ lists. WithoutRefusal (IsNetListing layout.tech lists)) n.lists n.flat
          (answered_value (IsNetListing layout.tech n.lists) (nets_reply layout.tech.layers n.nets) (n.nets, n.are, refl))
    ]

rows_low : (f : FlatFault) → f ≢ rows_fault.Memory → IsLow (refusal_of.Rows f)
rows_low (rows_fault.UnknownSubckt name) known = omega arith
rows_low (rows_fault.Cycle name) known = omega arith
rows_low (rows_fault.PortCount path) known = omega arith
rows_low (rows_fault.TooMany count) known = omega arith
rows_low rows_fault.Memory known = absurd (known refl)

module _ (layout : LayoutInput) (deck : Deck) (sound : IsReadLayout layout) where
  abbrev AreRows : Rows → Type 0
  AreRows rows = AreFlatRows deck.subckts layout.top (leaves_of layout.tech) rows.pins

  abbrev IsBadRows : FlatFault → Type 0
  IsBadRows = IsFlatFault deck.subckts layout.top (leaves_of layout.tech)

  abbrev AfterRows : FlatLists → Rows → Result Reply Refusal → Type 0
  AfterRows lists rows = WithoutRefusal (IsCompared layout.tech lists rows)

  abbrev AfterLists : FlatLists → Result Reply Refusal → Type 0
  AfterLists lists = Then (AreLeafRows layout deck) (AfterRows lists)

  with_rows : (rows : List RowPin) → AreFlatRows deck.subckts layout.top (leaves_of layout.tech) rows → HasOutcome (IsCompareAnswer layout deck)
  with_rows rows are = elim (layouts_have_comparisons layout.tech layout.lib.structs layout.top rows sound.writable.cells) [
    | inr fault ↦ unflat layout (AreFlatLists layout.tech.layers layout.lib.structs layout.top) AfterLists fault
    | inl c ↦
        let lists = c.nets.lists in
        let all : Rows = record { pins = rows } in
        after (AreFlat layout) AfterLists lists c.nets.flat
        (after (AreLeafRows layout deck) (AfterRows lists) all are
        (answered_value (IsCompared layout.tech lists all) (comparison_reply c.difference) (c.nets.nets, c.nets.are, (c.difference, c.is, refl))))
  ]

  without_rows : (fault : FlatFault) → fault ≢ rows_fault.Memory → IsBadRows fault → HasOutcome (IsCompareAnswer layout deck)
  without_rows bad known is = elim (layouts_have_nets layout.tech layout.lib.structs layout.top sound.writable.cells) [
    | inr fault ↦ unflat layout (AreFlatLists layout.tech.layers layout.lib.structs layout.top) AfterLists fault
    | inl n ↦ after (AreFlat layout) AfterLists n.lists n.flat
        (then_fault AreRows IsBadRows refusal_of.Rows (AfterRows n.lists) bad (rows_low bad known) is)
  ]

pub comparisons_have_outcomes : ComparisonsHaveOutcomes
comparisons_have_outcomes layout deck sound = elim (row_answers_are_there deck.subckts layout.top (leaves_of layout.tech)) [
  | inl rows ↦ with_rows layout deck sound rows.0 rows.1
  | inr fault ↦ without_rows layout deck sound fault.0 fault.1 fault.2
]
