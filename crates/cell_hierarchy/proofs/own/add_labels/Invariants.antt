use Rattle.std.proofs.Common.{drop, map}
use Rattle.or_geom.proofs.GatheringLaws.{IsGathering}
use Rattle.cell_hierarchy.specs.Placed.{LabelGives}
use Rattle.cell_hierarchy.specs.Plain.{plain_label}
use Rattle.cell_hierarchy.proofs.own.add_labels.Given as goal

abbrev pub invariant-loop-label : goal.invariant-loop-label
invariant-loop-label l = IsGathering (LabelGives l.at.path.now l.at.place) l.labels (drop l.label-index l.labels) (map plain_label l.fn.out.items) (map plain_label l.out.items)
