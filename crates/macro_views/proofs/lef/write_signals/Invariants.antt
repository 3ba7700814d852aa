use Rattle.std.proofs.Common.{◌≡◌, ◌++◌, drop}
use Rattle.std.specs.Prelude.{flat_map}
use Rattle.macro_views.specs.Lef.{signal_text}
use Rattle.macro_views.proofs.lef.write_signals.Given as goal

abbrev pub invariant-loop-pin : goal.invariant-loop-pin
invariant-loop-pin l = l.out.items ++ flat_map (signal_text l.view) (drop l.pin-index l.pin-items) ≡ l.initial.out.items ++ flat_map (signal_text l.view) l.pin-items
