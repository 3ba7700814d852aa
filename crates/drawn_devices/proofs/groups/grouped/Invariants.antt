use Rattle.drawn_devices.proofs.GroupLaws.{AreFirstGroups}
use Rattle.drawn_devices.proofs.groups.grouped.Given as goal

abbrev pub invariant-loop-index : goal.invariant-loop-index
invariant-loop-index l = AreFirstGroups l.shapes l.numbers l.index l.groups.items
