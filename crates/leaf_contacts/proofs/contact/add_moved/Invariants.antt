use Rattle.std.proofs.Common.{drop}
use Rattle.or_geom.proofs.GatheringLaws.{IsGathering}
use Rattle.cell_hierarchy.specs.FlatSet.{IsMoved}
use Rattle.leaf_contacts.proofs.contact.add_moved.Given as goal

abbrev pub invariant-loop-shape : goal.invariant-loop-shape
invariant-loop-shape l = IsGathering (IsMoved l.place) l.loose (drop l.shape-index l.loose) l.fn.moved.items l.moved.items
