use Rattle.std.proofs.Common.{refl, ◌∙◌}
use Rattle.command_steps.proofs.WriteLaws.{told_on, told_end, named_end}
use Rattle.command_steps.proofs.write.write_files.Goals as goal

pub returns-in-Err-clause-written : goal.returns-in-Err-clause-written
returns-in-Err-clause-written g c =
    told_end c.args.files.now c.loop-file.file-index c.file-item.result c.file_text.result.now c.as_slice.result.now c.in-Err.fail (g.S.Store.state c.args.store.now).files (g.S.Store.state c.loop-file.store).files (g.S.Store.state c.write.new.self).files
    c.loop-file-test.true c.file-item.is c.file_text.ensures c.as_slice.ensures c.loop-file.invariant.written c.in-Err.ensures.written

pub returns-in-Err-clause-named : goal.returns-in-Err-clause-named
returns-in-Err-clause-named g c =
    named_end c.in-Err.fail c.file_text.result.now c.file-item.result.name (g.S.Store.state c.args.store.now).failed (g.S.Store.state c.loop-file.store).failed (g.S.Store.state c.write.new.self).failed
    c.file_text.ensures c.loop-file.invariant.unnamed c.in-Err.ensures.named

pub loop-file-preserved : goal.loop-file-preserved
loop-file-preserved g c =
    record {
      written =
          told_on c.args.files.now c.loop-file.file-index c.file-item.result c.file_text.result.now c.as_slice.result.now (g.S.Store.state c.args.store.now).files (g.S.Store.state c.loop-file.store).files (g.S.Store.state c.write.new.self).files
          c.loop-file-test.true c.file-item.is c.file_text.ensures c.as_slice.ensures c.loop-file.invariant.written c.in-Ok.ensures.written;
      clean = c.in-Ok.ensures.cause.kept refl ∙ c.loop-file.invariant.clean;
      unnamed = c.in-Ok.ensures.named ∙ c.loop-file.invariant.unnamed;
    }
