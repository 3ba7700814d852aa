use Rattle.net_extractor.proofs.MatchingLaws.{matched_agree}
use Rattle.net_extractor.proofs.conflicts.first_unlike.Goals as goal

pub returns-then-go_together : goal.returns-then-go_together
returns-then-go_together c =
    matched_agree c.args.nets.now c.args.place c.args.matching.now c.net_at-net.result c.net_in-layout.result c.net_in-rows.result c.requires.matched c.net_at-net.ensures c.net_in-layout.ensures c.net_in-rows.ensures
    (c.go_together.ensures c.if-go_together.true)
