-- One name more.
use Rattle.sram_netlist.specs.Names.{with_number}
use Rattle.port_lists.proofs.TabulateLaws.{grown}
use Rattle.port_lists.proofs.names.NameList.add_numbered.Goals as goal

pub loop-number-preserved : goal.loop-number-preserved
loop-number-preserved c = grown _ _ _ c.loop-number.number (with_number c.args.letters.now) c.loop-number.invariant c.in_ok-add.ensures
