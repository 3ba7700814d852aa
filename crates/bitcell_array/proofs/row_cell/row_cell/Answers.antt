-- The gate, the driver and the cells of the bits are those that are stated.
use Rattle.std.proofs.Common.{pos, ap, ◌∙◌}
use Rattle.std.specs.Prelude.{codes}
use Rattle.cell_roles.specs.declared.role.Role.{Role}
use Rattle.cell_builder.specs.Additions.{instance_at}
use Rattle.sram_netlist.specs.Netlist.{row_gate}
use Rattle.port_lists.specs.Cells.{cell_in}
use Rattle.macro_layout.specs.Places.{upright}
use Rattle.floorplan.specs.LeafSides.{leaf_width}
use Rattle.floorplan.proofs.PlaceLaws.{of_same_name, cell_from_two, at_same}
use Rattle.bitcell_array.proofs.row_cell.row_cell.Goals as goal

pub returns : goal.returns
returns c =
    let gate = c.row_gate_role-gate.ensures ∙ ap row_gate (c.deref.ensures.value ∙ c.in_ok-groups.ensures) in
    cell_from_two _ _ _ _ _ _ _ _ _ _ _ (of_same_name _ _ _ _ c.unwired_cell.ensures (c.in_ok-row_name.ensures c.args.kit.now.tech.roles)) c.new-instances.ensures.items c.in_ok-push.ensures.items c.in_ok-push-2.ensures.items c.in_ok-add_bits.ensures
    (c.in_ok-leaf_at.ensures ∙ ap (λ (r : Role). instance_at (codes "xnand") (cell_in c.args.kit.now.tech.roles r) (upright (pos 0) (pos 0))) gate)
    (at_same _ _ _ _ _ _ c.in_ok-leaf_at-2.ensures (c.leaf_width-gate_width.ensures.is ∙ ap (leaf_width c.args.kit.now) gate))
