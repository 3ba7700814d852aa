use Rattle.std.proofs.Common.{refl}
use Rattle.std.proofs.lemmas.Result.{on_ok_weaker}
use Rattle.tile_checker.proofs.CandidateLaws.{near_read, candidates_answer}
use Rattle.tile_checker.proofs.candidates.list_candidates.Goals as goal

pub returns-in-Some-clause-adds : goal.returns-in-Some-clause-adds
returns-in-Some-clause-adds c =
    on_ok_weaker _ (λ a. candidates_answer c.args.bins.now c.args.layer c.args.area _ _ _ c.in-Some.ensures (rw c.clear.ensures.items at a)) c.add_places.ensures

pub returns-clause-adds : goal.returns-clause-adds
returns-clause-adds c = on_ok_weaker _ (λ a. near_read c.args.bins.now c.args.layer c.args.area _ _ _ c.clear.ensures.items refl a) c.add_near.ensures
