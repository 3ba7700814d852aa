-- A column more.
use Rattle.std.proofs.Common.{◌≡◌, ◌<◌, ◌∷◌, ℕ, List, ap, subst, ◌∙◌, arith}
use Rattle.std.specs.Prelude.{codes}
use Rattle.cell_roles.specs.Roles.{supplies}
use Rattle.sram_netlist.specs.Names.{with_number}
use Rattle.sram_plan.specs.PlanNumbers.{numbers_of, organization}
use Rattle.sram_deck.specs.Deck.{subckt_instance, row_bit}
use Rattle.port_lists.specs.Contents.{bit_cells}
use Rattle.port_lists.proofs.TabulateLaws.{grown_as, all_of}
use Rattle.port_lists.proofs.NumberLaws.{columns_are}
use Rattle.bitcell_array.proofs.row_subckt.add_bits.Goals as goal

pub bit_cell-cell-requires-clause-column : goal.bit_cell-cell-requires-clause-column
bit_cell-cell-requires-clause-column c = subst (λ (n : ℕ). c.loop-column.column < n) (columns_are (numbers_of c.args.plan.now) c.requires.numbers) (omega arith)

pub loop-column-preserved : goal.loop-column-preserved
loop-column-preserved c = grown_as _ _ _ _ c.loop-column.column (row_bit (bit_cells c.args.roles.now (organization c.args.plan.now) c.args.contents) c.args.row) c.loop-column.invariant c.in_ok-push.ensures.items (c.in_ok-cell_instance.ensures ∙ ap (λ (cell : List ℕ). subckt_instance (with_number (codes "xb") c.loop-column.column) (with_number (codes "bl") c.loop-column.column ∷ with_number (codes "br") c.loop-column.column ∷ codes "wl" ∷ supplies) cell) c.bit_cell-cell.ensures)

pub returns : goal.returns
returns c = all_of _ _ c.loop-column.column _ (row_bit (bit_cells c.args.roles.now (organization c.args.plan.now) c.args.contents) c.args.row) c.loop-column.invariant (let far : c.loop-column.column ≡ c.args.plan.now.columns = omega arith in far ∙ columns_are (numbers_of c.args.plan.now) c.requires.numbers)
