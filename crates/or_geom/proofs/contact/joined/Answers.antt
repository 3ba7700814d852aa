use Rattle.std.proofs.Common.{IsTrue, ◌↔◌, sym, subst, Bool}
use Rattle.or_geom.specs.Joined.{AreJoined}
use Rattle.or_geom.proofs.JoinedLaws.{is_joint_law}
use Rattle.or_geom.proofs.contact.joined.Goals as goal

pub returns : goal.returns
returns c =
    subst (λ (r : Bool). IsTrue r ↔ AreJoined c.args.a c.args.b) (sym c.is_joint.ensures)
    (is_joint_law _ _ c.args.a c.args.b (rw (c.across.ensures, c.across-2.ensures) at c.contact_of.ensures) (rw (c.upward.ensures, c.upward-2.ensures) at c.contact_of-2.ensures))
