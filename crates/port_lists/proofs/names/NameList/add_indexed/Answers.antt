-- One name more.
use Rattle.sram_netlist.specs.Names.{with_index}
use Rattle.port_lists.proofs.TabulateLaws.{grown}
use Rattle.port_lists.proofs.names.NameList.add_indexed.Goals as goal

pub loop-index-preserved : goal.loop-index-preserved
loop-index-preserved c = grown _ _ _ c.loop-index.index (with_index c.args.letters.now) c.loop-index.invariant c.in_ok-add.ensures
