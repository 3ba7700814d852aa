use Rattle.std.proofs.Common.{rules}
use Rattle.sram_plan.proofs.NearestLaws.{passed_over, taken_first, taken, kept_nearest}
use Rattle.sram_plan.proofs.choose.nearer.Goals as goal

pub returns-then-not-fits-clause-nearest : goal.returns-then-not-fits-clause-nearest
returns-then-not-fits-clause-nearest c = λ ws below n. passed_over c.args.config.now ws c.args.wpr c.args.nearest (λ fits. search rules) n

pub returns-then-distance-clause-nearest : goal.returns-then-distance-clause-nearest
returns-then-distance-clause-nearest c = λ ws below n. taken c.args.config.now ws c.args.wpr c.in-Some.other c.args.nearest (search rules) (search rules) (search rules) n

pub returns-else-distance-clause-nearest : goal.returns-else-distance-clause-nearest
returns-else-distance-clause-nearest c = λ ws below n. kept_nearest c.args.config.now ws c.args.wpr c.in-Some.other c.args.nearest (search rules) below (search rules) n

pub returns-in-None-clause-nearest : goal.returns-in-None-clause-nearest
returns-in-None-clause-nearest c = λ ws below n. taken_first c.args.config.now ws c.args.wpr c.args.nearest (search rules) (search rules) n
