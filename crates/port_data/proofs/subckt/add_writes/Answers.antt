-- A bit more.
use Rattle.std.proofs.Common.{◌∷◌, ◌∙◌, arith}
use Rattle.std.specs.Prelude.{codes}
use Rattle.cell_roles.specs.Roles.{supplies}
use Rattle.cell_roles.specs.declared.role.Role.TheVariants.{Write}
use Rattle.sram_netlist.specs.Names.{with_number}
use Rattle.sram_deck.specs.Deck.{subckt_instance}
use Rattle.sram_plan.specs.PlanNumbers.{organization}
use Rattle.sram_deck.specs.Deck.{data_write}
use Rattle.port_lists.specs.Cells.{cell_in}
use Rattle.port_lists.proofs.TabulateLaws.{grown_as, all_of}
use Rattle.port_data.proofs.subckt.add_writes.Goals as goal

pub loop-bit-preserved : goal.loop-bit-preserved
loop-bit-preserved c = grown_as _ _ _ _ c.loop-bit.bit (data_write (organization c.args.plan.now) (cell_in c.args.roles.now)) c.loop-bit.invariant c.in_ok-push.ensures.items (c.in_ok-leaf_instance.ensures ∙ (λ i. subckt_instance (with_number (codes "xw") c.loop-bit.bit) (with_number (codes "d") c.loop-bit.bit ∷ c.left_line.ensures i ∷ c.right_line.ensures i ∷ c.write_enable.ensures i ∷ supplies) (cell_in c.args.roles.now Write)))

pub returns : goal.returns
returns c = all_of _ _ c.loop-bit.bit _ (data_write (organization c.args.plan.now) (cell_in c.args.roles.now)) c.loop-bit.invariant (let count = c.inputs_of-bit-end.ensures in omega (arith, count))
