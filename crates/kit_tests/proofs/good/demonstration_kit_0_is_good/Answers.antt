use Rattle.kit_tests.proofs.ShortLaws.{short_is_good}
use Rattle.kit_tests.proofs.good.demonstration_kit_0_is_good.Goals as goal

pub weakness-requires-clause-maker : goal.weakness-requires-clause-maker
weakness-requires-clause-maker g c =
    λ lifetimes. short_is_good c.macros_are_whole.ensures c.macros_have_rows.ensures c.unused_names_are_free.ensures c.in_ok-kit.kit c.in_ok-kit.ensures
