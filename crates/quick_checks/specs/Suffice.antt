-- What the quick check of a kit promises.
use Rattle.leaf_tables.specs.declared.kit.Kit.{Kit}
use Rattle.leaf_tables.specs.Kits.{IsKit}
use Rattle.kit_check.specs.Good.{IsGoodKit}
use Rattle.kit_check.specs.Quick.{PassesQuickCheck}
use Rattle.macro_maker.specs.Assembled.{IsAssembled}

-- A kit that passes it over the macros that are assembled is a good one: nothing is wrong with any window.
abbrev pub QuickChecksSuffice : Type 0
QuickChecksSuffice = (kit : Kit) → IsKit kit → PassesQuickCheck IsAssembled kit → IsGoodKit IsAssembled kit
