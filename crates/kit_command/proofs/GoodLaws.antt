-- A good kit has no weakness.
use Rattle.std.proofs.Common.{None}
use Rattle.leaf_tables.specs.declared.kit.Kit.{Kit}
use Rattle.leaf_tables.specs.Kits.{IsKit}
use Rattle.kit_check.specs.Good.{IsGoodKit, IsWeakness}
use Rattle.kit_check.specs.Makers.{IsGoodMaker}
use Rattle.kit_check.proofs.WeakLaws.{is_weakness}
use Rattle.macro_maker.specs.Assembled.{IsAssembled}
use Rattle.macro_maker.specs.OneAssembled.{one_assembled}

pub good_has_none : (kit : Kit) → IsKit kit → IsGoodMaker IsAssembled kit → IsGoodKit IsAssembled kit → IsWeakness IsAssembled kit None
good_has_none kit is maker good = is_weakness IsAssembled kit maker (λ plan name a b. one_assembled kit plan name a b is) is None good
