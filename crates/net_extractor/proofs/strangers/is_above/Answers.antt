use Rattle.std.proofs.Common.{eq-eqb}
use Rattle.std.proofs.lemmas.Bool.{eqb-true}
use Rattle.net_extractor.proofs.PathLaws.{above_by}
use Rattle.net_extractor.proofs.strangers.is_above.Goals as goal

pub returns : goal.returns
returns c =
    let exact = above_by c.args.path.now c.args.other.now c.in-Some.rest.now c.in-Some-split_first.field-0-1.now c.in-Some-split_first.first.now c.in-Some.ensures c.in-Some-split_first.ensures.cases.0 in
    (λ yes. exact.0 (eqb-true c.in-Some-split_first.first.now 47 yes), λ h. eq-eqb c.in-Some-split_first.first.now 47 (exact.1 h))
