-- A good kit passes the quick check.
use Rattle.std.specs.Prelude.{ℕ, List, Result, Ok, Err}
use Rattle.gds_library.specs.declared.library.Library.{Library}
use Rattle.netlist.specs.declared.deck.Deck.{Deck}
use Rattle.sram_netlist.specs.Organization.{Organization}
use Rattle.sram_plan.specs.PlanNumbers.{organization}
use Rattle.leaf_tables.specs.declared.kit.Kit.{Kit}
use Rattle.leaf_tables.specs.declared.part.PartFault.{PartFault}
use Rattle.leaf_tables.specs.declared.part.PartFault.TheVariants as part_fault
use Rattle.kit_check.specs.declared.window.Window.{Window}
use Rattle.kit_check.specs.Windows.{plan_of}
use Rattle.kit_check.specs.Judged.{IsFaultlessMacro, IsSoundAnswer}
use Rattle.kit_check.specs.Good.{Answers, IsWindowGood, IsGoodKit}
use Rattle.kit_check.specs.Quick.{AreRulesLookedAt, IsPassingMacro, IsPassingAnswer, IsPassingWindow, PassesQuickCheck}

-- a macro with which nothing is wrong is in order wherever it is looked at
pub faultless_is_sound : (kit : Kit) (name : List ℕ) (memory : Organization) (lib : Library) (deck : Deck) → IsFaultlessMacro kit name lib deck → IsPassingMacro kit name memory lib deck
faultless_is_sound kit name memory lib deck is =
    let m = is.matching in
    record { lists = m.lists; flat = m.clean.flat; clean = λ looked. m.clean.clean; matching = λ looked. m.matching; apart = is.apart }

-- nothing is wrong with a macro that is in order and whose rules and nets are looked at
pub looked_at_is_faultless : (kit : Kit) (name : List ℕ) (memory : Organization) (lib : Library) (deck : Deck) → AreRulesLookedAt memory → IsPassingMacro kit name memory lib deck → IsFaultlessMacro kit name lib deck
looked_at_is_faultless kit name memory lib deck looked is =
    record { matching = record { lists = is.lists; clean = record { flat = is.flat; clean = is.clean looked }; matching = is.matching looked.few }; apart = is.apart }

sound_passes : (kit : Kit) (name : List ℕ) (memory : Organization) (answer : Result (Library × Deck) PartFault) → IsSoundAnswer kit name answer → IsPassingAnswer kit name memory answer
sound_passes kit name memory (Ok made) is = faultless_is_sound kit name memory made.0 made.1 is
sound_passes kit name memory (Err (part_fault.SliceTooNarrow role)) is = tt
sound_passes kit name memory (Err (part_fault.Close side a b)) is = is
sound_passes kit name memory (Err (part_fault.TapsClose a b)) is = is
sound_passes kit name memory (Err (part_fault.NameTaken taken)) is = is
sound_passes kit name memory (Err part_fault.Memory) is = is

good_passes : (answers : Answers) (kit : Kit) (name : List ℕ) (w : Window) → IsWindowGood answers kit name w → IsPassingWindow answers kit name w
good_passes answers kit name w good = record { answer = good.answer; is = good.is; sound = sound_passes kit name (organization (plan_of w)) good.answer good.sound }

pub good_kits_pass : (answers : Answers) (kit : Kit) → IsGoodKit answers kit → PassesQuickCheck answers kit
good_kits_pass answers kit good =
    let windows = good.windows in
    record {
      wires = good.wires;
      pins = good.pins;
      windows = record { name = windows.name; named = windows.named; each = λ place w here. good_passes answers kit windows.name w (windows.each place w here) };
    }
