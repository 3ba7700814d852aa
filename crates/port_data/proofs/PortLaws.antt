-- The demands for the pins that meet the column channel.
use Rattle.std.proofs.Common.{refl, arith}
use Rattle.std.specs.Prelude.{codes}
use Rattle.cell_roles.specs.declared.role.Role.TheVariants.{Mux, Tie, Sense}
use Rattle.leaf_shapes.specs.declared.demand.Metal.TheVariants.{M2, M4}
use Rattle.floorplan.specs.Demanded.{IsDemandOf}

pub mux_blo : IsDemandOf Mux 2 3 2
mux_blo = record { name = codes "blo"; named = refl; on = M4; number = refl; first = refl; there = omega arith }

pub mux_bro : IsDemandOf Mux 3 3 3
mux_bro = record { name = codes "bro"; named = refl; on = M4; number = refl; first = refl; there = omega arith }

pub mux_sel : IsDemandOf Mux 4 3 4
mux_sel = record { name = codes "sel"; named = refl; on = M4; number = refl; first = refl; there = omega arith }

pub tie_bl : IsDemandOf Tie 0 3 1
tie_bl = record { name = codes "bl"; named = refl; on = M4; number = refl; first = refl; there = omega arith }

pub tie_br : IsDemandOf Tie 1 3 3
tie_br = record { name = codes "br"; named = refl; on = M4; number = refl; first = refl; there = omega arith }

pub sense_bl : IsDemandOf Sense 0 1 0
sense_bl = record { name = codes "bl"; named = refl; on = M2; number = refl; first = refl; there = omega arith }

pub sense_br : IsDemandOf Sense 1 1 1
sense_br = record { name = codes "br"; named = refl; on = M2; number = refl; first = refl; there = omega arith }
