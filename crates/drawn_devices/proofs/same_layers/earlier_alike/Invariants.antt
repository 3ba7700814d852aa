use Rattle.std.proofs.Common.{ℕ, ◌<◌}
use Rattle.drawn_devices.specs.SameLayers.{IsAlikeBefore}
use Rattle.drawn_devices.proofs.same_layers.earlier_alike.Given as goal

abbrev pub invariant-loop-earlier : goal.invariant-loop-earlier
invariant-loop-earlier l = (e : ℕ) → e < l.earlier → IsAlikeBefore l.devices l.index e → ⊥
