use Rattle.std.proofs.Common.{refl}
use Rattle.tile_checker.proofs.CandidateLaws.{near_read}
use Rattle.tile_checker.proofs.candidates.renew.Goals as goal

pub list_of-requires : goal.list_of-requires
list_of-requires c = near_read c.args.bins.now c.args.layer c.args.tile _ _ _ c.clear.ensures.items refl c.in_ok-add_near.ensures

pub returns-clause-seen : goal.returns-clause-seen
returns-clause-seen c = record { wide = c.requires.seen.wide; clear = c.requires.seen.clear; candidates = record { listed = c.in_ok-list.ensures } }
