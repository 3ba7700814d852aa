use Rattle.std.proofs.Common.{map, take}
use Rattle.cell_hierarchy.specs.Plain.{plain_label}
use Rattle.drawn_devices.proofs.NameLaws.{AreNamesOf}
use Rattle.drawn_devices.proofs.names.names_of.Given as goal

abbrev pub invariant-loop-index : goal.invariant-loop-index
invariant-loop-index l = AreNamesOf l.cell (map plain_label (take l.index l.labels)) l.names
