use Rattle.std.proofs.Common.{refl}
use Rattle.std.proofs.lemmas.List.{drop_all}
use Rattle.or_geom.proofs.ListLaws.{rest_at}
use Rattle.or_geom.proofs.AddsLaws.{adds_one}
use Rattle.or_geom.proofs.GatheringLaws.{gather_skips, gather_goes_on, gather_ends}
use Rattle.tile_checker.proofs.candidates.add_places.Goals as goal

pub loop-candidate-preserved-then-not-meet : goal.loop-candidate-preserved-then-not-meet
loop-candidate-preserved-then-not-meet c =
    gather_skips _ _ _ _ _ _ _ (rest_at c.args.candidates.now c.loop-candidate.candidate-index c.candidate-item.result c.loop-candidate-test.true c.candidate-item.is) c.loop-candidate.invariant
    (λ place p. let yes = c.if-not-meet.ensures.1 p.meets in absurd cc)

pub loop-candidate-preserved : goal.loop-candidate-preserved
loop-candidate-preserved c =
    gather_goes_on _ _ _ _ _ _ _ _ (rest_at c.args.candidates.now c.loop-candidate.candidate-index c.candidate-item.result c.loop-candidate-test.true c.candidate-item.is) c.loop-candidate.invariant
    (adds_one _ _ _ _ c.in_ok-push.ensures.items (record { is = refl; meets = c.if-not-meet.ensures.0 refl }) (λ place p. p.is))

pub returns : goal.returns
returns c = gather_ends _ _ _ _ _ (drop_all c.loop-candidate.candidate-index c.args.candidates.now c.loop-candidate-test.false) c.loop-candidate.invariant
