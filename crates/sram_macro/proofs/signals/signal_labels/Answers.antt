-- A label more.
use Rattle.std.proofs.Common.{ap, sym, ◌++◌, map, append-nil, ◌∙◌}
use Rattle.std.proofs.lemmas.List.{nil_from_length}
use Rattle.cell_builder.specs.declared.cell.PlacedLabel.{PlacedLabel}
use Rattle.sram_plan.specs.declared.view.SignalPin.{SignalPin}
use Rattle.std.proofs.Common.{List}
use Rattle.sram_macro.specs.Signals.{signal_label}
use Rattle.sram_macro.proofs.SignalLaws.{more_mapped}
use Rattle.sram_macro.proofs.signals.signal_labels.Goals as goal

pub loop-pin-init : goal.loop-pin-init
loop-pin-init c = ap (λ (l : List PlacedLabel). l ++ map (signal_label c.args.wire.now) c.args.pins.now) c.new-labels.ensures.items

pub loop-pin-preserved : goal.loop-pin-preserved
loop-pin-preserved c = more_mapped (signal_label c.args.wire.now) _ _ _ _ _ _ _ c.loop-pin.invariant c.in-Some.ensures.cases.0 c.in_ok-push.ensures.items c.in_ok-signal_label.ensures

pub returns : goal.returns
returns c = sym (append-nil _) ∙ (ap (λ (l : List SignalPin). c.loop-pin.labels.items ++ map (signal_label c.args.wire.now) l) (sym (nil_from_length _ c.in_default.ensures.cases)) ∙ c.loop-pin.invariant)
