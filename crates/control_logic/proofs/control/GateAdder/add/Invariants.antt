use Rattle.std.proofs.Common.{◌≡◌, map, take}
use Rattle.port_lists.specs.Spelled.{spelled}
use Rattle.control_logic.proofs.control.GateAdder.add.Given as goal

abbrev pub invariant-loop-net : goal.invariant-loop-net
invariant-loop-net l = map spelled l.nodes.items ≡ map (λ net. net.now) (take l.net-index l.nets)
