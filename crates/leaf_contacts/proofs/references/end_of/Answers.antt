use Rattle.std.proofs.Common.{◌∙◌, ℤ, ap, subst, sym, w64, to_z, of_z, FitsSigned}
use Rattle.std.proofs.lemmas.Int.{to_z-of_z}
use Rattle.cell_hierarchy.proofs.StepLaws.{way_is, way_fits, end_is, end_fits}
use Rattle.leaf_contacts.proofs.references.end_of.Goals as goal

pub overflow_mul-way : goal.overflow_mul-way
overflow_mul-way c =
    subst (λ (m : ℤ). FitsSigned w64 m) (sym (way_is c.args.steps.count c.args.steps.length c.from.result c.requires.way (record { sfits = c.from.type_inv }) c.from.ensures)) (way_fits c.args.steps.count c.args.steps.length c.requires.way)

pub overflow_add-result : goal.overflow_add-result
overflow_add-result c =
    let way = way_is c.args.steps.count c.args.steps.length c.from.result c.requires.way (record { sfits = c.from.type_inv }) c.from.ensures in
    subst (λ (m : ℤ). FitsSigned w64 m) (sym (end_is c.args.steps.from c.args.steps.count c.args.steps.length _ c.requires.from c.requires.way way)) (end_fits c.args.steps.from c.args.steps.count c.args.steps.length c.requires.from c.requires.way)

pub returns : goal.returns
returns c =
    let way = way_is c.args.steps.count c.args.steps.length c.from.result c.requires.way (record { sfits = c.from.type_inv }) c.from.ensures in
    ap (λ (m : ℤ). to_z w64 (of_z w64 m)) (end_is c.args.steps.from c.args.steps.count c.args.steps.length _ c.requires.from c.requires.way way)
    ∙ to_z-of_z w64 _ (end_fits c.args.steps.from c.args.steps.count c.args.steps.length c.requires.from c.requires.way)
