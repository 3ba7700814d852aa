use Rattle.or_host.specs.FileList.{NoneBefore}
use Rattle.or_host.proofs.file.place_of.Given as goal

abbrev pub invariant-loop-i : goal.invariant-loop-i
invariant-loop-i l = NoneBefore l.i l.files l.name
