use Rattle.std.proofs.Common.{◌≡◌, ◌++◌, map, length}
use Rattle.sram_macro.specs.Signals.{signal_label}
use Rattle.sram_macro.proofs.signals.signal_labels.Given as goal

abbrev pub invariant-loop-pin : goal.invariant-loop-pin
invariant-loop-pin l = l.labels.items ++ map (signal_label l.wire) l.rest ≡ map (signal_label l.wire) l.pins

abbrev pub decreases-loop-pin : goal.decreases-loop-pin
decreases-loop-pin l = length l.rest
