use Rattle.std.proofs.Common.{Bool, List, sym, subst}
use Rattle.std.proofs.lemmas.Result.{IfOk-weaker}
use Rattle.or_geom.specs.declared.shape.Shape.{Shape}
use Rattle.cell_hierarchy.specs.FlatLists.{AreFlatShapes}
use Rattle.cell_hierarchy.specs.Plain.{lists_of}
use Rattle.cell_hierarchy.proofs.OneListsLaws.{shapes_of_lists}
use Rattle.kit_check.proofs.ContactLaws.{near_leaves, touching_found}
use Rattle.kit_check.proofs.judge.touches_outside.Goals as goal

pub has_loose_contact-requires-clause-flat : goal.has_loose_contact-requires-clause-flat
has_loose_contact-requires-clause-flat g c =
    let layers = c.args.trial.now.kit.now.tech.layers in
    let structs = c.args.lib.now.structs in
    let name = c.args.trial.now.name.now in
    subst (λ (l : List Shape). AreFlatShapes layers structs name l) (sym c.requires.bins) (shapes_of_lists layers structs name (lists_of c.args.flat.now) c.requires.flat)

pub has_loose_contact-requires-clause-loose : goal.has_loose_contact-requires-clause-loose
has_loose_contact-requires-clause-loose g c = near_leaves c.args.trial.now.kit.now c.args.trial.now.leaves.now c.requires.leaves

pub returns : goal.returns
returns g c =
    IfOk-weaker _ _ _ (λ (found : Bool) u. touching_found c.args.trial.now.kit.now c.args.trial.now.name.now c.args.lib.now.structs c.args.trial.now.leaves.now found c.requires.leaves u) c.has_loose_contact.ensures
