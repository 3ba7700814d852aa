use Rattle.std.proofs.Common.{◌∙◌, ap, sym, Some, List, ℕ}
use Rattle.or_host.proofs.FileLists.{there, not_there}
use Rattle.or_host.proofs.file.bytes_under.Goals as goal

pub returns-in-Some : goal.returns-in-Some
returns-in-Some c =
    let at = c.in-Some.ensures in
    there c.in-Some.i c.args.files.now c.args.name.now c.index-files-i.result at.none_before at.within (at.here _)
    ∙ ap (λ (b : List ℕ). Some b) (sym c.as_slice.ensures)

pub returns-in-None : goal.returns-in-None
returns-in-None c = not_there c.args.files.now c.args.name.now c.in-None.ensures
