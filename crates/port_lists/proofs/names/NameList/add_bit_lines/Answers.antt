-- A column more.
use Rattle.sram_deck.specs.Deck.{column_bit_lines}
use Rattle.port_lists.proofs.TabulateLaws.{grown_by_list}
use Rattle.port_lists.proofs.names.NameList.add_bit_lines.Goals as goal

pub loop-column-preserved : goal.loop-column-preserved
loop-column-preserved c = grown_by_list _ _ _ c.loop-column.column column_bit_lines c.loop-column.invariant c.in_ok-add_all.ensures
