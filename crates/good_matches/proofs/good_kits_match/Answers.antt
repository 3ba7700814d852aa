use Rattle.good_matches.proofs.MatchLaws.{good_kits_match}
use Rattle.good_matches.proofs.good_kits_match.Goals as goal

pub returns : goal.returns
returns c = good_kits_match
