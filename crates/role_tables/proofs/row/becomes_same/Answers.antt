use Rattle.std.proofs.Common.{◌∙◌, sym}
use Rattle.role_tables.proofs.FitLaws.{next_same}
use Rattle.role_tables.proofs.row.becomes_same.Goals as goal

pub returns : goal.returns
returns c =
    let same = next_same c.args.a.now c.args.b.now c.args.stored.now c.requires.first c.requires.second in
    ((λ is. same.0 (sym c.all_become_same.ensures ∙ is)), (λ is. c.all_become_same.ensures ∙ same.1 is))
