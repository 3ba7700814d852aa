use Rattle.std.proofs.Common.{◌∷◌, reverse}
use Rattle.spice_netlist.proofs.DescentLaws.{IsUnderWay, weight}
use Rattle.spice_netlist.proofs.walk.walk.Given as goal

abbrev pub invariant-steps : goal.invariant-steps
invariant-steps l = IsUnderWay l.subckts l.top l.initial.rows l.rows l.instance_path.path.items l.instance_path.net.items l.level (reverse l.trail.items)

abbrev pub decreases-steps : goal.decreases-steps
decreases-steps l = weight l.subckts (l.level ∷ reverse l.trail.items)
