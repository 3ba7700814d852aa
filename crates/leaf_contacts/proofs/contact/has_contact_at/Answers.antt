use Rattle.std.proofs.Common.{refl, subst, sym}
use Rattle.std.proofs.lemmas.List.{drop_all}
use Rattle.or_geom.specs.Gathering.{SomeHas}
use Rattle.or_geom.proofs.GatheringLaws.{among_found, among_goes_on}
use Rattle.leaf_contacts.specs.Marks.{IsContactWith}
use Rattle.leaf_contacts.proofs.contact.has_contact_at.Goals as goal

pub returns-then-not-is_instance : goal.returns-then-not-is_instance
returns-then-not-is_instance c entries are = (λ t. absurd cc, λ h. let t = c.if-not-is_instance.ensures.1 h.instance in absurd cc)

pub has_contact_with-requires-clause-loose : goal.has_contact_with-requires-clause-loose
has_contact_with-requires-clause-loose c = c.requires.loose c.leaf-item.result (c.loop-leaf.leaf-index, c.loop-leaf-test.true, sym c.leaf-item.is)

pub returns-then-found : goal.returns-then-found
returns-then-found c entries are = (
  λ _. record {
    instance = c.if-not-is_instance.ensures.0 refl;
    leaf = among_found (IsContactWith c.args.layout.now.tech.now.connects c.args.layout.now.tree.now entries c.args.stand.now) c.args.layout.now.tree.now.leaves.now c.loop-leaf.leaf-index c.leaf-item.result c.loop-leaf-test.true c.leaf-item.is
        ((c.in_ok-found.ensures entries are).0 c.if-found.true);
  },
  λ _. refl,
)

pub loop-leaf-preserved : goal.loop-leaf-preserved
loop-leaf-preserved c entries are =
    among_goes_on (IsContactWith c.args.layout.now.tech.now.connects c.args.layout.now.tree.now entries c.args.stand.now) c.args.layout.now.tree.now.leaves.now c.loop-leaf.leaf-index c.leaf-item.result c.loop-leaf-test.true c.leaf-item.is
    (λ h. let t = (c.in_ok-found.ensures entries are).1 h in let f = c.if-found.false in absurd cc) (c.loop-leaf.invariant entries are)

pub returns : goal.returns
returns c entries are = (
  λ t. absurd cc,
  λ h. absurd (subst (SomeHas (IsContactWith c.args.layout.now.tech.now.connects c.args.layout.now.tree.now entries c.args.stand.now)) (drop_all c.loop-leaf.leaf-index c.args.layout.now.tree.now.leaves.now c.loop-leaf-test.false)
      (c.loop-leaf.invariant entries are h.leaf)),
)
