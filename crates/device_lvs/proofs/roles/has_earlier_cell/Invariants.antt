use Rattle.std.proofs.Common.{◌<◌}
use Rattle.device_lvs.specs.RoleSteps.{HasEarlierCell}
use Rattle.device_lvs.proofs.roles.has_earlier_cell.Given as goal

abbrev pub invariant-loop-earlier : goal.invariant-loop-earlier
invariant-loop-earlier l = (h : HasEarlierCell l.roles l.place) → h.earlier < l.earlier → ⊥
