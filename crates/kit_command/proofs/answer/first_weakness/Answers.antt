use Rattle.kit_command.proofs.GoodLaws.{good_has_none}
use Rattle.macro_maker.proofs.MakerLaws.{assembling_is_good}
use Rattle.kit_command.proofs.answer.first_weakness.Goals as goal

pub passes_quick_check-requires-clause-maker : goal.passes_quick_check-requires-clause-maker
passes_quick_check-requires-clause-maker g c =
    λ lifetimes within. assembling_is_good c.macros_are_whole.ensures c.macros_have_rows.ensures c.unused_names_are_free.ensures c.args.kit.now c.requires.kit

pub weakness-requires-clause-maker : goal.weakness-requires-clause-maker
weakness-requires-clause-maker g c =
    λ lifetimes within. assembling_is_good c.macros_are_whole.ensures c.macros_have_rows.ensures c.unused_names_are_free.ensures c.args.kit.now c.requires.kit

pub returns-then-branch : goal.returns-then-branch
returns-then-branch g c =
    let kit = c.args.kit.now in
    let maker = assembling_is_good c.macros_are_whole.ensures c.macros_have_rows.ensures c.unused_names_are_free.ensures kit c.requires.kit in
    good_has_none kit c.requires.kit maker (c.quick_checks_suffice.ensures kit c.requires.kit (c.in_ok-passes_quick_check.ensures c.if-branch.true))
