use Rattle.std.proofs.Common.{get_or, map}
use Rattle.std.proofs.lemmas.Option.{slice_get-get_or}
use Rattle.net_extractor.specs.PlainNets.{plain_net}
use Rattle.net_extractor.proofs.MappedLaws.{mapped_at}
use Rattle.net_extractor.proofs.MixedLaws.{unbound_mixed}
use Rattle.net_extractor.proofs.keys.mark_mixed.Goals as goal

pub returns-in_default-clause-right : goal.returns-in_default-clause-right
returns-in_default-clause-right c =
    unbound_mixed (map plain_net c.args.labels.now) c.args.marks.now c.args.place (plain_net (get_or c.args.labels.now c.args.place _))
    (mapped_at plain_net c.args.labels.now c.args.place _ (slice_get-get_or c.args.labels.now c.args.place _ c.requires.inside)) c.in_default.not-Some
