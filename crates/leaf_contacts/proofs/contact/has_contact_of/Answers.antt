use Rattle.std.proofs.lemmas.Result.{IfOk-weaker}
use Rattle.leaf_contacts.proofs.NearbyLaws.{contacts_moved}
use Rattle.leaf_contacts.proofs.contact.has_contact_of.Goals as goal

pub returns : goal.returns
returns c =
    IfOk-weaker c.some_touch_elsewhere.result _ _
    (λ found told entries are.
    let both = told entries are in
    let same = contacts_moved c.args.layout.now.tech.now.connects entries c.args.stand.now c.args.loose.now _ _ c.as_slice.result.now c.clear.ensures.items c.as_slice.ensures.value c.in_ok-add_moved.ensures in (
      λ t. same.0 (both.0 t),
      λ h. both.1 (same.1 h),
    ))
    c.some_touch_elsewhere.ensures
