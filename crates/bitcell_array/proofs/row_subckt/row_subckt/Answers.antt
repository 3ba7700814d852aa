-- The name, the ports and the instances are those that are stated.
use Rattle.std.proofs.Common.{◌++◌, ◌∷◌, ℕ, List, ap, ◌∙◌}
use Rattle.std.specs.Prelude.{codes}
use Rattle.cell_roles.specs.Roles.{supplies}
use Rattle.sram_netlist.specs.Netlist.{row_gate}
use Rattle.sram_deck.specs.Deck.{subckt_instance, row_inputs}
use Rattle.port_lists.specs.Cells.{cell_in}
use Rattle.port_lists.proofs.SubcktLaws.{made_same, from_two}
use Rattle.bitcell_array.proofs.row_subckt.row_subckt.Goals as goal

pub returns : goal.returns
returns c = made_same c.subckt_of.result _ _ _ _ _ _ c.subckt_of.ensures (c.in_ok-name.ensures c.args.roles.now) c.in_ok-ports.ensures
    (from_two _ _ _ _ _ _ _ _ _ c.new-instances.ensures.items c.in_ok-push.ensures.items c.in_ok-push-2.ensures.items c.in_ok-add_bits.ensures
    (c.in_ok-row_gate_instance.ensures ∙ ap (λ (gs : List ℕ). subckt_instance (codes "xnand") (row_inputs 97 gs ++ (codes "zb" ∷ supplies)) (cell_in c.args.roles.now (row_gate gs))) (c.deref-2.ensures.value ∙ c.in_ok-groups.ensures)) c.in_ok-row_driver_instance.ensures)
