use Rattle.std.proofs.Common.{get_or, refl, subst}
use Rattle.std.proofs.lemmas.List.{drop_all, get_or_default}
use Rattle.or_geom.specs.Gathering.{SomeHas}
use Rattle.or_geom.proofs.GatheringLaws.{among_found, among_goes_on}
use Rattle.leaf_contacts.specs.Marks.{IsTouchedElsewhere}
use Rattle.leaf_contacts.proofs.contact.touches_one_of.Goals as goal

pub touches_at-requires-clause-within : goal.touches_at-requires-clause-within
touches_at-requires-clause-within c = c.requires.within (get_or c.args.places.now c.loop-place.place-index 0) (c.loop-place.place-index, c.loop-place-test.true, get_or_default c.args.places.now c.loop-place.place-index _ 0 c.loop-place-test.true)

pub returns-then-touches_at : goal.returns-then-touches_at
returns-then-touches_at c entries are = (
  λ _. among_found (IsTouchedElsewhere c.args.layout.now.tech.now.connects c.args.layout.now.bins.now entries c.args.moved.now c.args.instance.now) c.args.places.now c.loop-place.place-index (get_or c.args.places.now c.loop-place.place-index 0) c.loop-place-test.true
      (get_or_default c.args.places.now c.loop-place.place-index 0 _ c.loop-place-test.true) ((c.if-touches_at.ensures entries are).0 refl),
  λ _. refl,
)

pub loop-place-preserved : goal.loop-place-preserved
loop-place-preserved c entries are =
    among_goes_on (IsTouchedElsewhere c.args.layout.now.tech.now.connects c.args.layout.now.bins.now entries c.args.moved.now c.args.instance.now) c.args.places.now c.loop-place.place-index (get_or c.args.places.now c.loop-place.place-index 0) c.loop-place-test.true
    (get_or_default c.args.places.now c.loop-place.place-index 0 _ c.loop-place-test.true) (λ h. let t = (c.if-touches_at.ensures entries are).1 h in absurd cc) (c.loop-place.invariant entries are)

pub returns : goal.returns
returns c entries are = (
  λ t. absurd cc,
  λ h. absurd (subst (SomeHas (IsTouchedElsewhere c.args.layout.now.tech.now.connects c.args.layout.now.bins.now entries c.args.moved.now c.args.instance.now)) (drop_all c.loop-place.place-index c.args.places.now c.loop-place-test.false)
      (c.loop-place.invariant entries are h)),
)
