use Rattle.std.proofs.Common.{◌≡◌, map, take}
use Rattle.openram_cli.proofs.answer.cells_of.Given as goal

abbrev pub invariant-loop-role : goal.invariant-loop-role
invariant-loop-role l = l.cells.items ≡ map (λ r. r.cell) (take l.role-index l.roles)
