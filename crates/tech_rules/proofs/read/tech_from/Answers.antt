use Rattle.tech_rules.proofs.TechFacts.{gives-IsTech}
use Rattle.tech_rules.proofs.read.tech_from.Goals as goal

pub returns-clause-good : goal.returns-clause-good
returns-clause-good c = gives-IsTech _ c.tech_in.result c.tech_in.ensures
