use Rattle.std.proofs.Common.{◌≡◌, take}
use Rattle.or_host.specs.Files.{Told}
use Rattle.command_steps.specs.Writing.{AreWritten}
use Rattle.command_steps.proofs.write.write_files.Given as goal

abbrev pub invariant-loop-file : goal.invariant-loop-file
invariant-loop-file g l = record {
  written : Told (AreWritten (take l.file-index l.files)) (g.S.Store.state l.fn.store).files (g.S.Store.state l.store).files;
  clean : (g.S.Store.state l.store).faults ≡ (g.S.Store.state l.fn.store).faults;
  unnamed : (g.S.Store.state l.store).failed ≡ (g.S.Store.state l.fn.store).failed;
}
