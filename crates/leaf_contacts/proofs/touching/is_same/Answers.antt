use Rattle.std.proofs.Common.{◌≡◌, sym, subst, ◌∙◌, true}
use Rattle.or_geom.specs.declared.shape.Shape.{Shape}
use Rattle.or_geom.proofs.ShapeOrderLaws.{same_shape, shape_eq}
use Rattle.leaf_contacts.proofs.NearbyLaws.{equals_itself}
use Rattle.leaf_contacts.proofs.touching.is_same.Goals as goal

pub returns : goal.returns
returns c = (
  λ t. same_shape c.args.a c.args.b (sym c.eq.ensures ∙ t),
  λ e. c.eq.ensures ∙ subst (λ (s : Shape). shape_eq c.args.a s ≡ true) e (equals_itself c.args.a),
)
