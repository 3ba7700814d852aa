use Rattle.std.proofs.Common.{drop, [], ℕ, ◌<◌, ◌≡◌, get_or, Result, Vec}
use Rattle.std.specs.declared.alloc.Global.{Global}
use Rattle.or_geom.specs.declared.memory.Memory.{Memory}
use Rattle.tile_checker.specs.declared.violation.Violation.{Violation}
use Rattle.or_geom.proofs.GatheringLaws.{IsGathering}
use Rattle.tile_checker.specs.Share.{HasOk, IsThere}
use Rattle.tile_checker.proofs.union.joined.Given as goal

abbrev pub invariant-loop-list : goal.invariant-loop-list
invariant-loop-list l = record {
  gathered : IsGathering HasOk l.lists (drop l.list-index l.lists) [] l.all.items;
  there : (k : ℕ) (list : Result (Vec Violation Global) Memory) → k < l.list-index → get_or l.lists k list ≡ list → IsThere list;
}
