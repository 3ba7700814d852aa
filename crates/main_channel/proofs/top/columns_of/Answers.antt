-- The rows' left end, a gate and a driver.
use Rattle.std.proofs.Common.{pos, ap, ◌∙◌, arith}
use Rattle.cell_roles.specs.declared.role.Role.{Role}
use Rattle.cell_roles.specs.declared.role.Role.TheVariants.{Driver}
use Rattle.sram_netlist.specs.Netlist.{row_gate}
use Rattle.floorplan.specs.LeafSides.{leaf_width}
use Rattle.floorplan.proofs.SideLaws.{width_is}
use Rattle.std.proofs.lemmas.Int.{ints}
use Rattle.main_channel.proofs.top.columns_of.Goals as goal

pub returns-clause-near : goal.returns-clause-near
returns-clause-near c =
    let a = c.requires.near.row_x.above in
    let b = c.requires.near.row_x.below in
    let d = c.leaf_of-gate.ensures.near.width.above in
    let e = c.leaf_of-gate.ensures.near.width.below in
    let f = c.leaf_of-driver.ensures.near.width.above in
    let g = c.leaf_of-driver.ensures.near.width.below in
    record { above = omega (arith, ints, a, b, d, e, f, g); below = omega (arith, ints, a, b, d, e, f, g) }

pub returns-clause-is : goal.returns-clause-is
returns-clause-is c =
    let a = c.requires.near.row_x.above in
    let b = c.requires.near.row_x.below in
    let d = c.leaf_of-gate.ensures.near.width.above in
    let e = c.leaf_of-gate.ensures.near.width.below in
    let f = c.leaf_of-driver.ensures.near.width.above in
    let g = c.leaf_of-driver.ensures.near.width.below in
    let gate = (width_is c.args.kit.now c.requires.kit c.row_gate_role.result c.leaf_of-gate.result.now c.leaf_of-gate.ensures.is).is ∙ ap (λ (role : Role). pos (leaf_width c.args.kit.now role)) (c.row_gate_role.ensures ∙ ap row_gate (c.deref.ensures.value ∙ c.in_ok-groups.ensures)) in
    let driver = (width_is c.args.kit.now c.requires.kit Driver c.leaf_of-driver.result.now c.leaf_of-driver.ensures.is).is in
    omega (arith, ints, a, b, d, e, f, g, gate, driver)
