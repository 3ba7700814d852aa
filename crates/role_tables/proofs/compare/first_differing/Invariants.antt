use Rattle.std.proofs.Common.{◌≡◌, All, take}
use Rattle.cell_roles.specs.Tables.{all_values}
use Rattle.role_tables.specs.Point.{SaysAct}
use Rattle.role_tables.proofs.PointLaws.{cut_point, inputs_of, bits_of}
use Rattle.role_tables.proofs.compare.first_differing.Given as goal

abbrev pub invariant-loop-point : goal.invariant-loop-point
invariant-loop-point l =
    (l.point-items ≡ all_values (bits_of l.role))
    × All (λ bits. SaysAct l.role l.rows (cut_point (inputs_of l.role) bits)) (take l.point-index l.point-items)
