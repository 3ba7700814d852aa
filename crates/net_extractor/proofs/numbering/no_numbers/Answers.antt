use Rattle.std.proofs.Common.{◌≡◌, length, replicate, refl, rules}
use Rattle.std.specs.Prelude.{None}
use Rattle.net_extractor.proofs.NumberLaws.{numbering_begins}
use Rattle.net_extractor.proofs.numbering.no_numbers.Goals as goal

pub returns-clause-numbered : goal.returns-clause-numbered
returns-clause-numbered c =
    let none : c.in_ok-numbers.numbers.items ≡ replicate (length c.in_ok-roots.roots.items) None = search rules in
    numbering_begins c.args.connections.now c.args.bins.now (length c.in_ok-roots.roots.items) _ c.in_ok-roots.ensures none refl
