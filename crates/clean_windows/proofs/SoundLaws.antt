-- Each small memory of a good kit's plan is assembled, and nothing is wrong with it.
use Rattle.std.proofs.Common.{◌≡◌, inl, inr, ◌∙◌, ℕ, ◌^◌, ◌≤◌, List, Some, Result, Ok, Err, sym, ap, subst, refl, arith}
use Rattle.std.specs.Prelude.{Contains, slice_get}
use Rattle.std.proofs.lemmas.Option.{slice_get-get_or}
use Rattle.gds_library.specs.declared.library.Library.{Library}
use Rattle.netlist.specs.declared.deck.Deck.{Deck}
use Rattle.tech_rules.specs.declared.tech.Wire.{Wire}
use Rattle.or_geom.proofs.ListLaws.{contained_at}
use Rattle.sram_netlist.specs.Organization.{Organization, total_bits}
use Rattle.sram_plan.specs.declared.numbers.Plan.{Plan}
use Rattle.sram_plan.specs.PlanNumbers.{organization, used_groups}
use Rattle.leaf_tables.specs.declared.kit.Kit.{Kit}
use Rattle.leaf_tables.specs.declared.part.PartFault.{PartFault}
use Rattle.leaf_tables.specs.declared.part.PartFault.TheVariants as part_fault
use Rattle.leaf_tables.specs.Kits.{IsKit}
use Rattle.floorplan.specs.LayoutOfKit.{layout_kit}
use Rattle.port_data.specs.Column.{AreWideSlices}
use Rattle.kit_check.specs.declared.window.Window.{Window}
use Rattle.kit_check.specs.Windows.{all_windows, plan_of, window_rows}
use Rattle.kit_check.specs.Quick.{AreRulesLookedAt, IsPassingMacro, IsPassingAnswer, PassesQuickCheck}
use Rattle.kit_check.proofs.QuickLaws.{good_kits_pass, looked_at_is_faultless}
use Rattle.kit_check.proofs.WindowLaws.{are_planned}
use Rattle.macro_maker.specs.Assembled.{IsAssembled}
use Rattle.sram_netlist.proofs.InstanceLists.{place_in}
use Rattle.kit_routes.proofs.FaultLaws.{too_wide, not_wide}
use Rattle.kit_routes.proofs.ModelLaws.{rows_listed}
use Rattle.good_places.specs.Windows.{with_bits, IsWindowOf}
use Rattle.good_windows.proofs.ListedLaws.{IsSize, all_at_once, one_by_one, with_size}
use Rattle.good_windows.specs.Listed.{IsPlanOfWindow}
use Rattle.clean_windows.specs.Sound.{HasPassingWindow, HasSoundWindow, IsWrittenOfRows, GoodKitsHaveCleanWindows}

-- an answer in order is a macro, where cells aren't too wide
sound : (kit : Kit) (window : Window) (name : List ℕ) (wire : Wire) (answer : Result (Library × Deck) PartFault) → Contains all_windows window → kit.tech.wire ≡ Some wire → AreWideSlices (organization (plan_of window)) (layout_kit kit) → IsAssembled kit (plan_of window) name answer → IsPassingAnswer kit name (organization (plan_of window)) answer
    → HasPassingWindow kit (organization (plan_of window))
sound kit window name wire (Ok made) listed wired wide (m, is, e) short = record {
  plan = plan_of window;
  is = refl;
  numbers = are_planned window listed;
  name = name;
  macro = m;
  made = is;
  sound = subst (λ (pair : Library × Deck). IsPassingMacro kit name (organization (plan_of window)) pair.0 pair.1) e short;
}
sound kit window name wire (Err (part_fault.SliceTooNarrow r)) listed wired wide (_, inl taken) fine = absurd taken
sound kit window name wire (Err (part_fault.SliceTooNarrow r)) listed wired wide (_, inr (free, parts)) fine = absurd (not_wide (organization (plan_of window)) (layout_kit kit) (too_wide kit (organization (plan_of window)) wire r wired parts) wide)
sound kit window name wire (Err (part_fault.Close s a b)) listed wired wide is fine = absurd fine
sound kit window name wire (Err (part_fault.TapsClose a b)) listed wired wide is fine = absurd fine
sound kit window name wire (Err (part_fault.NameTaken n)) listed wired wide is fine = absurd fine
sound kit window name wire (Err part_fault.Memory) listed wired wide is fine = absurd fine

place_of : {X : Type 0} (xs : List X) (x : X) → Contains xs x → (k : ℕ) × (slice_get xs k ≡ Some x)
place_of {X} xs x h = (h.0, slice_get-get_or xs h.0 x h.1 ∙ ap (λ (z : X). Some z) h.2)

-- each listed window of a kit that passes
pub listed_is_sound : (kit : Kit) (window : Window) (is : IsKit kit) → PassesQuickCheck IsAssembled kit → Contains all_windows window → AreWideSlices (organization (plan_of window)) (layout_kit kit) → HasPassingWindow kit (organization (plan_of window))
listed_is_sound kit window is good listed wide =
    let at = place_of all_windows window listed in
    let one = good.windows.each at.0 window at.1 in
    sound kit window good.windows.name is.wire one.answer listed is.wired wide one.is one.sound

-- nothing is wrong with one whose rules are looked at
looked_at : (kit : Kit) (memory : Organization) → AreRulesLookedAt memory → HasPassingWindow kit memory → HasSoundWindow kit memory
looked_at kit memory looked w = record {
  plan = w.plan;
  is = w.is;
  numbers = w.numbers;
  name = w.name;
  macro = w.macro;
  made = w.made;
  faultless = looked_at_is_faultless kit w.name (organization w.plan) w.macro.lib w.macro.deck (subst AreRulesLookedAt (sym w.is) looked) w.sound;
}

module _ (kit : Kit) (plan : Plan) (is : IsKit kit) (good : PassesQuickCheck IsAssembled kit) (planned : IsWrittenOfRows plan) (wide : AreWideSlices (organization plan) (layout_kit kit)) where
  rows : Contains window_rows plan.rows
  rows = let at = place_in plan.rows window_rows (rows_listed plan.rows (planned.numbers.rows ∙ ap (λ (g : List ℕ). 2 ^ total_bits (used_groups g)) planned.groups)) in contained_at window_rows at.0 plan.rows at.1

  still_wide : (word write masks : ℕ) → AreWideSlices (with_bits (organization plan) word write masks) (layout_kit kit)
  still_wide word write masks = record { sense = wide.sense; write = λ some. wide.write planned.written }

  -- the memory with so many bits, which are listed
  pub sized : (word write masks : ℕ) → IsSize word write masks → HasPassingWindow kit (with_bits (organization plan) word write masks)
  sized word write masks size =
      let l : IsPlanOfWindow (with_bits (organization plan) word write masks) = with_size (organization plan) plan.rows rows (ap used_groups planned.groups) planned.numbers.plan.choices planned.numbers.plan.banks word write masks size in
      subst (HasPassingWindow kit) l.is (listed_is_sound kit l.window is good l.listed (subst (λ (o : Organization). AreWideSlices o (layout_kit kit)) (sym l.is) (still_wide word write masks)))

  pub clean_window : (other : Organization) → IsWindowOf (organization plan) other → HasSoundWindow kit other
  clean_window other (inl (k, some, few, e)) = subst (HasSoundWindow kit) (sym e) (looked_at kit (with_bits (organization plan) k k 0) (record { few = few; written = inl refl }) (sized k k 0 (all_at_once k some few)))
  clean_window other (inr e) = subst (HasSoundWindow kit) (sym e) (looked_at kit (with_bits (organization plan) 3 1 3) (record { few = few; written = inr refl }) (sized 3 1 3 (one_by_one 3 three few))) where
    three : 2 ≤ 3
    three = omega arith

    few : 3 ≤ 4
    few = omega arith

pub good_kits_have_clean_windows : GoodKitsHaveCleanWindows
good_kits_have_clean_windows kit plan is good planned wide other of = clean_window kit plan is (good_kits_pass IsAssembled kit good) planned wide other of
