use Rattle.std.proofs.Common.{List, subst}
use Rattle.or_host.specs.declared.file.MemFile.{MemFile}
use Rattle.command_steps.specs.Outside.{outside_at}
use Rattle.build_command.specs.Run.{IsDemoWritten}
use Rattle.build_command.proofs.RunLaws.{demo_run}
use Rattle.build_command.proofs.run.demonstrate.Goals as goal

pub returns : goal.returns
returns g c =
    let before = g.S.Store.state c.args.store.now in
    let start = g.K.Sink.state c.args.out.now in
    let now = outside_at (g.S.Store.state c.write_and_build.new.store) (g.K.Sink.state c.write_and_build.new.out) in
    let status = c.write_and_build.result in
    demo_run c.args.number status before start now (subst (λ (list : List MemFile). IsDemoWritten list status (outside_at before start) now) c.in-Ok.ensures.files c.write_and_build.ensures)
