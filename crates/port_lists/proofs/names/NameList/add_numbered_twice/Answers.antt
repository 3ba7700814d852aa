-- One name more.
use Rattle.sram_netlist.specs.Names.{with_numbers}
use Rattle.port_lists.proofs.TabulateLaws.{grown}
use Rattle.port_lists.proofs.names.NameList.add_numbered_twice.Goals as goal

pub loop-second-preserved : goal.loop-second-preserved
loop-second-preserved c = grown _ _ _ c.loop-second.second (with_numbers c.args.letters.now c.args.first) c.loop-second.invariant c.in_ok-add.ensures
