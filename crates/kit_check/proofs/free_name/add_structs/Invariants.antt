use Rattle.std.proofs.Common.{drop}
use Rattle.or_geom.proofs.GatheringLaws.{IsGathering}
use Rattle.gds_library.specs.declared.library.Structure.{Structure}
use Rattle.kit_check.specs.Digits.{IsNumberIn}
use Rattle.kit_check.proofs.free_name.add_structs.Given as goal

abbrev pub invariant-loop-structure : goal.invariant-loop-structure
invariant-loop-structure l = IsGathering (λ (s : Structure). IsNumberIn s.name) l.structs (drop l.structure-index l.structs) l.fn.out.items l.out.items
