use Rattle.std.proofs.Common.{◌≡◌, ◌<◌, length, get_or, subst, arith}
use Rattle.std.proofs.lemmas.Option.{slice_get-get_or}
use Rattle.shape_bins.proofs.ForestLaws.{place_within}
use Rattle.shape_bins.proofs.PlaceLaws.{all_here}
use Rattle.net_extractor.specs.Sets.{AreTogether}
use Rattle.net_extractor.proofs.MarkLaws.{with_kept}
use Rattle.net_extractor.proofs.SetLaws.{alike_itself, alike_on}
use Rattle.net_extractor.proofs.marks.is_leaf_with.Goals as goal

pub loop-at-init : goal.loop-at-init
loop-at-init c = record {
  within = c.requires.over.rises;
  alike = alike_itself c.args.above.now c.requires.falls;
  with_top = λ at place from to there. absurd (omega (arith, from, to));
}

pub root-requires-clause-inside : goal.root-requires-clause-inside
root-requires-clause-inside c =
    let lt = place_within c.args.forest.shapes.now c.args.forest.places.now c.args.leaf c.loop-at.at c.requires.over c.loop-at.auto.at (omega (arith, c.loop-at-test.true)) in
    omega (arith, lt, c.requires.sized, c.loop-at.invariant.alike.sized)

pub root-requires-clause-falls : goal.root-requires-clause-falls
root-requires-clause-falls c = c.loop-at.invariant.alike.falls

pub returns-then-root-top-clause-alike : goal.returns-then-root-top-clause-alike
returns-then-root-top-clause-alike c = alike_on _ _ _ c.loop-at.invariant.alike c.root.ensures.alike

pub loop-at-preserved : goal.loop-at-preserved
loop-at-preserved c =
    let places = c.args.forest.places.now in
    let at = c.loop-at.at in
    let new = c.root.new.above in
    let place = get_or places at 0 in
    let lt : at < length places = omega (arith, c.requires.over.within, c.loop-at-test.true) in
    let same : c.root.result ≡ c.args.top = omega (arith, c.if-root-top.false) in
    record {
      within = omega (arith, c.loop-at-test.true);
      alike = alike_on _ _ _ c.loop-at.invariant.alike c.root.ensures.alike;
      with_top = all_here (λ p. AreTogether new p c.args.top) places c.args.leaf.first at place (slice_get-get_or places at 0 lt)
          (subst (AreTogether new place) same (c.root.ensures.alike.kept.keeps place c.root.result c.root.ensures.leads))
          (with_kept places c.loop-at.above new c.args.top c.args.leaf.first at c.root.ensures.alike.kept c.loop-at.invariant.with_top);
    }

pub returns-clause-alike : goal.returns-clause-alike
returns-clause-alike c = c.loop-at.invariant.alike

pub returns-clause-with_top : goal.returns-clause-with_top
returns-clause-with_top c = λ yes at place from to there. c.loop-at.invariant.with_top at place from (omega (arith, to, c.loop-at-test.false)) there
