use Rattle.std.proofs.Common.{length, ap}
use Rattle.leaf_contacts.proofs.NearbyLaws.{near_within, touched_nearby}
use Rattle.leaf_contacts.proofs.contact.touches_elsewhere.Goals as goal

pub touches_one_of-requires-clause-within : goal.touches_one_of-requires-clause-within
touches_one_of-requires-clause-within c place h = near_within c.args.layout.now.bins.now c.hull_of-hull.result _ _ _ c.as_slice-2.result.now place c.clear.ensures.items c.as_slice-2.ensures.value c.in_ok-add_near.ensures h

pub returns : goal.returns
returns c entries are =
    let told = c.touches_one_of.ensures entries are.marks in
    let near = touched_nearby c.args.layout.now.tech.now.connects c.args.layout.now.bins.now entries c.args.moved.now c.args.instance.now c.hull_of-hull.result _ _ _ _ c.as_slice-2.result.now c.clear.ensures.items c.as_slice-2.ensures.value (ap length c.as_slice.ensures)
    c.hull_of-hull.ensures are.listed c.in_ok-add_near.ensures in (
      λ t. near.0 (told.0 t),
      λ h. told.1 (near.1 h),
    )
