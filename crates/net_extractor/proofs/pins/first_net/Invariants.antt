use Rattle.std.proofs.Common.{◌≡◌, ℕ, ◌<◌}
use Rattle.std.specs.Prelude.{slice_get, Some}
use Rattle.net_extractor.specs.declared.label.NetLabel.{NetLabel}
use Rattle.net_extractor.specs.PlainNets.{plain_net}
use Rattle.net_extractor.proofs.PinLaws.{GivesNone}
use Rattle.net_extractor.proofs.pins.first_net.Given as goal

abbrev pub invariant-loop-label : goal.invariant-loop-label
invariant-loop-label l = (k : ℕ) (e : NetLabel) → k < l.label-index → slice_get l.labels k ≡ Some e → GivesNone l.pin (plain_net e)
