use Rattle.std.proofs.Common.{get_or, refl}
use Rattle.std.proofs.lemmas.List.{get_or_default}
use Rattle.or_geom.proofs.GatheringLaws.{among_found, among_goes_on}
use Rattle.or_geom.proofs.ListLaws.{contained_at}
use Rattle.leaf_contacts.specs.Marks.{HasContactAt}
use Rattle.leaf_contacts.proofs.FarLaws.{near_point}
use Rattle.leaf_contacts.proofs.FlatLaws.{stand_cell_in}
use Rattle.leaf_contacts.proofs.LevelLaws.{no_stand, stand_there}
use Rattle.leaf_contacts.proofs.contact.has_contact.Goals as goal

pub has_contact_at-requires-clause-near : goal.has_contact_at-requires-clause-near
has_contact_at-requires-clause-near c =
    let stand = get_or c.args.stands.now c.loop-stand.stand-index no_stand in
    near_point stand.place.at (c.requires.stands stand (contained_at c.args.stands.now c.loop-stand.stand-index stand (stand_there c.args.stands.now c.loop-stand.stand-index c.loop-stand-test.true))).near

pub has_contact_at-requires-clause-cell : goal.has_contact_at-requires-clause-cell
has_contact_at-requires-clause-cell c =
    let stand = get_or c.args.stands.now c.loop-stand.stand-index no_stand in
    stand_cell_in c.args.layout.now.tree.now c.args.layout.now.bins.now stand c.requires.tree
    (c.requires.stands stand (contained_at c.args.stands.now c.loop-stand.stand-index stand (stand_there c.args.stands.now c.loop-stand.stand-index c.loop-stand-test.true)))

pub returns-then-found : goal.returns-then-found
returns-then-found c entries are = (
  λ _. among_found (HasContactAt c.args.layout.now.tech.now.connects c.args.layout.now.tree.now entries) c.args.stands.now c.loop-stand.stand-index (get_or c.args.stands.now c.loop-stand.stand-index no_stand) c.loop-stand-test.true
      (get_or_default c.args.stands.now c.loop-stand.stand-index no_stand _ c.loop-stand-test.true) ((c.in_ok-found.ensures entries are).0 c.if-found.true),
  λ _. refl,
)

pub loop-stand-preserved : goal.loop-stand-preserved
loop-stand-preserved c entries are =
    among_goes_on (HasContactAt c.args.layout.now.tech.now.connects c.args.layout.now.tree.now entries) c.args.stands.now c.loop-stand.stand-index (get_or c.args.stands.now c.loop-stand.stand-index no_stand) c.loop-stand-test.true
    (get_or_default c.args.stands.now c.loop-stand.stand-index no_stand _ c.loop-stand-test.true) (λ h. let t = (c.in_ok-found.ensures entries are).1 h in let f = c.if-found.false in absurd cc) (c.loop-stand.invariant entries are)
