-- A maker that gives up on large macros is a good one too.
use Rattle.std.proofs.Common.{◌≡◌, ◌≢◌, ◌≤◌, inl, inr, ℕ, List, Ok, Err, codes, sym, subst}
use Rattle.std.specs.Result.{IfErr}
use Rattle.leaf_tables.specs.declared.kit.Kit.{Kit}
use Rattle.leaf_tables.specs.declared.part.PartFault.{PartFault}
use Rattle.leaf_tables.specs.declared.part.PartFault.TheVariants as part_fault
use Rattle.leaf_tables.specs.Kits.{IsKit}
use Rattle.macro_facts.specs.Unused.{UnusedNamesAreFree}
use Rattle.macro_facts.specs.Whole.{MacrosAreWhole, MacrosHaveRows}
use Rattle.kit_check.specs.Makers.{IsGoodAnswer, IsGoodMaker}
use Rattle.sram_plan.specs.declared.numbers.Plan.{Plan}
use Rattle.macro_maker.specs.Assembled.{IsAssembled}
use Rattle.macro_maker.proofs.MakerLaws.{assembling_is_good}
use Rattle.kit_tests.specs.Short.{Made, IsShortAnswer}

too_wide : (kit : Kit) (name : List ℕ) (answer : Made) → answer ≡ Err (part_fault.SliceTooNarrow (codes "sense")) → IsGoodAnswer kit name answer
too_wide kit name answer e = subst (IsGoodAnswer kit name) (sym e) (λ taken same. cc)

pub short_is_good : MacrosAreWhole → MacrosHaveRows → UnusedNamesAreFree → (kit : Kit) → IsKit kit → IsGoodMaker IsShortAnswer kit
short_is_good whole rows untaken kit is w name answer listed free (inl (few, made)) = assembling_is_good whole rows untaken kit is w name answer listed free made
short_is_good whole rows untaken kit is w name answer listed free (inr (many, e)) = too_wide kit name answer e

-- up to 32 rows a fault of assembling is one of such a maker
pub short_faults : (kit : Kit) (plan : Plan) (name : List ℕ) (answer : Made) → plan.rows ≤ 32
    → IfErr answer (λ (fault : PartFault). fault ≢ part_fault.Memory → IsAssembled kit plan name (Err fault))
    → IfErr answer (λ (fault : PartFault). fault ≢ part_fault.Memory → IsShortAnswer kit plan name (Err fault))
short_faults kit plan name (Ok made) few is = is
short_faults kit plan name (Err fault) few is = λ some. inl (few, is some)
