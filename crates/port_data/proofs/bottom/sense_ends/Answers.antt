-- Those of bl and br.
use Rattle.std.proofs.Common.{◌∙◌}
use Rattle.port_data.proofs.FormulaLaws.{kept}
use Rattle.port_data.proofs.PortLaws.{sense_bl, sense_br}
use Rattle.port_data.proofs.bottom.sense_ends.Goals as goal

pub returns-clause-is : goal.returns-clause-is
returns-clause-is c =
    let lo = kept c.pin_left.result c.pin_left.ensures.near ∙ c.pin_left.ensures.is 0 1 sense_bl in
    let ro = kept c.pin_left-2.result c.pin_left-2.ensures.near ∙ c.pin_left-2.ensures.is 1 1 sense_br in
    λ i. record { lo = lo i; ro = ro i }
