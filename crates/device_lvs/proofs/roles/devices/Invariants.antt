use Rattle.device_lvs.specs.RoleSteps.{AreComparedBelow, leaf_files}
use Rattle.device_lvs.proofs.roles.devices.Given as goal

abbrev pub invariant-loop-place : goal.invariant-loop-place
invariant-loop-place l = AreComparedBelow (leaf_files l.tech l.lib l.deck) l.place l.first
