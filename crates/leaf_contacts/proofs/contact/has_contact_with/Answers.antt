use Rattle.std.proofs.Common.{refl, sym, subst}
use Rattle.std.proofs.lemmas.Result.{IfOk-weaker}
use Rattle.or_geom.specs.Gathering.{SomeHas}
use Rattle.leaf_contacts.specs.Marks.{IsContactOf}
use Rattle.leaf_contacts.proofs.contact.has_contact_with.Goals as goal

pub returns-then-not-is_cell_named : goal.returns-then-not-is_cell_named
returns-then-not-is_cell_named c entries are = (λ t. absurd cc, λ h. let t = c.if-not-is_cell_named.ensures.1 h.cell in absurd cc)

pub returns : goal.returns
returns c =
    IfOk-weaker c.has_contact_of.result _ _
    (λ found told entries are.
    let both = told entries are in (
      λ t. record { cell = c.if-not-is_cell_named.ensures.0 refl; contact = subst (SomeHas (IsContactOf c.args.layout.now.tech.now.connects entries c.args.stand.now)) c.as_slice.ensures (both.0 t) },
      λ h. both.1 (subst (SomeHas (IsContactOf c.args.layout.now.tech.now.connects entries c.args.stand.now)) (sym c.as_slice.ensures) h.contact),
    ))
    c.has_contact_of.ensures
