use Rattle.std.proofs.Common.{◌↔◌, List, refl, subst}
use Rattle.std.specs.Prelude.{IsTrue}
use Rattle.or_geom.specs.Gathering.{SomeHas}
use Rattle.tech_rules.specs.declared.tech.Connect.{Connect}
use Rattle.leaf_contacts.specs.Marks.{IsTouching}
use Rattle.leaf_contacts.proofs.NearbyLaws.{touched_at, untouched_at}
use Rattle.leaf_contacts.proofs.contact.touches_at.Goals as goal

pub returns-then-stands_elsewhere : goal.returns-then-stands_elsewhere
returns-then-stands_elsewhere c entries are =
    touched_at c.args.layout.now.tech.now.connects c.args.layout.now.bins.now entries c.args.moved.now c.args.instance.now c.args.place c.shape_at-other.result c.touches_one.result c.shape_at-other.ensures
    ((c.if-stands_elsewhere.ensures entries c.shape_at-other.result are c.shape_at-other.ensures).0 refl)
    (subst (λ (l : List Connect). IsTrue c.touches_one.result ↔ SomeHas (IsTouching l c.shape_at-other.result) c.args.moved.now) c.as_slice.ensures c.touches_one.ensures)

pub returns-else-stands_elsewhere : goal.returns-else-stands_elsewhere
returns-else-stands_elsewhere c entries are = (
  λ t. let f = c.if-stands_elsewhere.false in absurd cc,
  λ h. absurd (untouched_at c.args.layout.now.tech.now.connects c.args.layout.now.bins.now entries c.args.moved.now c.args.instance.now c.args.place c.shape_at-other.result c.shape_at-other.ensures
      (λ e. let t = (c.if-stands_elsewhere.ensures entries c.shape_at-other.result are c.shape_at-other.ensures).1 e in absurd cc) h),
)
