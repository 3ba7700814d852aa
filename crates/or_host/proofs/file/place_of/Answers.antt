use Rattle.std.proofs.Common.{add-one, sym, ◌∙◌}
use Rattle.or_host.proofs.FileLists.{none_more}
use Rattle.or_host.proofs.file.place_of.Goals as goal

pub loop-i-preserved : goal.loop-i-preserved
loop-i-preserved c =
    rw add-one (none_more c.loop-i.i c.args.files.now c.args.name.now c.index-files-i.result c.loop-i.invariant c.loop-i-test.true
    (λ e. let found = c.is.ensures.1 (e ∙ sym c.as_bytes.ensures.value) in let none = c.if-is.false in absurd cc))
