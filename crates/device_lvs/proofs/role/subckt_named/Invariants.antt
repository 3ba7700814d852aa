use Rattle.std.specs.Str.{bytes_eq}
use Rattle.netlist.specs.declared.deck.Subckt.{Subckt}
use Rattle.device_lvs.proofs.FindLaws.{IsLeft}
use Rattle.device_lvs.proofs.role.subckt_named.Given as goal

abbrev pub invariant-loop-subckt : goal.invariant-loop-subckt
invariant-loop-subckt l = IsLeft (λ (subckt : Subckt). bytes_eq subckt.name l.name) l.subckts l.subckt-index
