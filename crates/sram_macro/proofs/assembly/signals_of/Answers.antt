-- The ports of the names.
use Rattle.std.proofs.Common.{◌≡◌, ℕ, pos, List, sym, subst, ◌∙◌}
use Rattle.std.specs.List.{AllByRecursion}
use Rattle.sram_plan.specs.PlanNumbers.{organization}
use Rattle.floorplan.specs.LayoutOfKit.{layout_kit}
use Rattle.sram_macro.specs.Signals.{IsWritablePin, AreOnTracks, signal_names, input_count, signals_on_tracks}
use Rattle.sram_macro.proofs.LabelFacts.{signals_are_writable}
use Rattle.sram_macro.proofs.AssemblyLaws.{on_tracks}
use Rattle.sram_macro.proofs.assembly.signals_of.Goals as goal

pub signal_pins-requires-clause-tracks : goal.signal_pins-requires-clause-tracks
signal_pins-requires-clause-tracks c =
    let on = on_tracks (organization c.args.plan.now) (layout_kit c.args.kit.now) c.args.wire.now c.args.main.now c.requires.main in
    subst (λ (t : List ℕ). AreOnTracks c.as_slice.result.now t) (sym c.as_slice-2.ensures) (subst (λ (names : List (List ℕ)). AreOnTracks names c.args.main.now.track) (sym (c.as_slice.ensures ∙ c.in_ok-names.ensures)) on)

pub returns-clause-are : goal.returns-clause-are
returns-clause-are c =
    let plan = organization c.args.plan.now in
    let on = on_tracks plan (layout_kit c.args.kit.now) c.args.wire.now c.args.main.now c.requires.main in
    let are : c.in_ok-signal_pins.field-0.items ≡ signals_on_tracks c.args.wire.now (pos c.args.low) (input_count plan) (signal_names plan) c.args.main.now.track =
    c.in_ok-signal_pins.ensures ∙ (λ i. signals_on_tracks c.args.wire.now (pos c.args.low) (c.inputs_of-inputs.ensures i) ((c.as_slice.ensures ∙ c.in_ok-names.ensures) i) (c.as_slice-2.ensures i)) in
    are

pub returns-clause-writable : goal.returns-clause-writable
returns-clause-writable c =
    let plan = organization c.args.plan.now in
    let on = on_tracks plan (layout_kit c.args.kit.now) c.args.wire.now c.args.main.now c.requires.main in
    let are : c.in_ok-signal_pins.field-0.items ≡ signals_on_tracks c.args.wire.now (pos c.args.low) (input_count plan) (signal_names plan) c.args.main.now.track =
    c.in_ok-signal_pins.ensures ∙ (λ i. signals_on_tracks c.args.wire.now (pos c.args.low) (c.inputs_of-inputs.ensures i) ((c.as_slice.ensures ∙ c.in_ok-names.ensures) i) (c.as_slice-2.ensures i)) in
    subst (AllByRecursion IsWritablePin) (sym are) (signals_are_writable c.args.kit.now.tech.layers plan c.args.wire.now c.args.low (input_count plan) c.args.main.now.track c.requires.plan.plan c.requires.wire c.requires.low on)
