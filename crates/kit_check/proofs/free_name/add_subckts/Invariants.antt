use Rattle.std.proofs.Common.{drop}
use Rattle.or_geom.proofs.GatheringLaws.{IsGathering}
use Rattle.netlist.specs.declared.deck.Subckt.{Subckt}
use Rattle.kit_check.specs.Digits.{IsNumberIn}
use Rattle.kit_check.proofs.free_name.add_subckts.Given as goal

abbrev pub invariant-loop-subckt : goal.invariant-loop-subckt
invariant-loop-subckt l = IsGathering (λ (s : Subckt). IsNumberIn s.name) l.subckts (drop l.subckt-index l.subckts) l.fn.out.items l.out.items
