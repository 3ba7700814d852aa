-- A kit that passes the quick check is a good one.
use Rattle.std.proofs.Common.{inl, inr, ℕ, List, Result, Ok, Err, refl, sym, subst}
use Rattle.std.specs.Prelude.{Contains}
use Rattle.or_geom.proofs.ListLaws.{contained_at}
use Rattle.gds_library.specs.declared.library.Library.{Library}
use Rattle.netlist.specs.declared.deck.Deck.{Deck}
use Rattle.netlist.specs.declared.rows.RowPin.{RowPin}
use Rattle.spice_netlist.specs.Faults.{AreFlatRows}
use Rattle.port_lists.specs.Held.Held.{Stored}
use Rattle.sram_plan.specs.PlanNumbers.{organization}
use Rattle.leaf_tables.specs.declared.kit.Kit.{Kit}
use Rattle.leaf_tables.specs.declared.part.PartFault.{PartFault}
use Rattle.leaf_tables.specs.declared.part.PartFault.TheVariants as part_fault
use Rattle.leaf_tables.specs.Kits.{IsKit}
use Rattle.sram_macro.specs.declared.assembly.Macro.{Macro}
use Rattle.sram_macro.specs.Macro.{IsMacro}
use Rattle.kit_check.specs.declared.window.Window.{Window}
use Rattle.kit_check.specs.Windows.{all_windows, plan_of}
use Rattle.kit_check.specs.Makers.{subckts_with, role_cells}
use Rattle.kit_check.specs.Judged.{MatchIn, IsFaultlessMacro, IsSoundAnswer}
use Rattle.kit_check.specs.Good.{IsWindowGood}
use Rattle.kit_check.specs.Quick.{IsPassingMacro, IsPassingAnswer, IsPassingWindow, PassesQuickCheck}
use Rattle.kit_check.proofs.WindowLaws.{are_planned, are_small}
use Rattle.macro_facts.proofs.WholeLaws.{macros_have_rows}
use Rattle.macro_maker.specs.Assembled.{IsAssembled}
use Rattle.net_answers.proofs.NumberedLaws.{nets_are_there}
use Rattle.row_answers.proofs.AnswerLaws.{row_answers_are_there}
use Rattle.good_places.specs.Windows.{IsWrittenPlan}
use Rattle.clean_windows.specs.Sound.{IsWrittenOfRows}
use Rattle.good_reports.proofs.ReportLaws.{some_masks, breaks_no_rule}
use Rattle.good_matches.proofs.MatchLaws.{matches_netlist}
use Rattle.quick_checks.specs.Suffice.{QuickChecksSuffice}

-- A window's plan is one of a memory that is written, of words with bits.

written_window : (w : Window) → Contains all_windows w → IsWrittenOfRows (plan_of w)
written_window w listed = record { numbers = are_planned w listed; groups = refl; written = (are_small w listed).written }

bits_of_window : (w : Window) → Contains all_windows w → IsWrittenPlan (organization (plan_of w))
bits_of_window w listed =
    let build = (are_planned w listed).plan in
    record { words = build.words; written = (are_small w listed).written; masks = some_masks (plan_of w).masks w.word_size w.write_size refl build.masks }

-- a window's macro has rows
rows_there : (kit : Kit) (w : Window) (name : List ℕ) (m : Macro) → Contains all_windows w → IsMacro kit (plan_of w) Stored name m → (rows : List RowPin) × AreFlatRows (subckts_with kit m.deck) name (role_cells kit) rows
rows_there kit w name m listed made = elim (row_answers_are_there (subckts_with kit m.deck) name (role_cells kit)) [
  | inl rows ↦ rows
  | inr refused ↦ absurd (macros_have_rows kit (plan_of w) Stored name m (are_planned w listed) made refused.0 refused.1 refused.2)
]

module _ (kit : Kit) (is : IsKit kit) (short : PassesQuickCheck IsAssembled kit) (w : Window) (listed : Contains all_windows w) (name : List ℕ) where
  -- It breaks no rule and matches its netlist, as each memory of the kit.
  matching : (m : Macro) → IsMacro kit (plan_of w) Stored name m → (sound : IsPassingMacro kit name (organization (plan_of w)) m.lib m.deck) → MatchIn kit name m.deck sound.lists
  matching m made sound =
      let nets = nets_are_there kit.tech sound.lists.shapes sound.lists.labels in
      let rows = rows_there kit w name m listed made in
      let match = matches_netlist kit (plan_of w) name is short (written_window w listed) (bits_of_window w listed) in
      record {
        labels = nets.0;
        rows = rows.0;
        are = record { nets = nets.1; netlist = rows.1 };
        alike = match.alike (m.lib, m.deck) sound.lists nets.0 rows.0 (m, made, refl) sound.flat (record { nets = nets.1; netlist = rows.1 });
      }

  faultless : (m : Macro) → IsMacro kit (plan_of w) Stored name m → IsPassingMacro kit name (organization (plan_of w)) m.lib m.deck → IsFaultlessMacro kit name m.lib m.deck
  faultless m made sound =
      let none = breaks_no_rule kit (plan_of w) is short (written_window w listed) (bits_of_window w listed) name in
      record {
        matching = record {
          lists = sound.lists;
          clean = record { flat = sound.flat; clean = none.clean (m.lib, m.deck) sound.lists (m, made, refl) sound.flat };
          matching = matching m made sound;
        };
        apart = sound.apart;
      }

  sound_answer : (answer : Result (Library × Deck) PartFault) → IsAssembled kit (plan_of w) name answer → IsPassingAnswer kit name (organization (plan_of w)) answer → IsSoundAnswer kit name answer
  sound_answer (Ok made) (m, is_macro, e) sound =
      subst (λ (pair : Library × Deck). IsFaultlessMacro kit name pair.0 pair.1) (sym e)
      (faultless m is_macro (subst (λ (pair : Library × Deck). IsPassingMacro kit name (organization (plan_of w)) pair.0 pair.1) e sound))
  sound_answer (Err (part_fault.SliceTooNarrow role)) answered sound = tt
  sound_answer (Err (part_fault.Close side a b)) answered sound = sound
  sound_answer (Err (part_fault.TapsClose a b)) answered sound = sound
  sound_answer (Err (part_fault.NameTaken taken)) answered sound = sound
  sound_answer (Err part_fault.Memory) answered sound = sound

  window_good : IsPassingWindow IsAssembled kit name w → IsWindowGood IsAssembled kit name w
  window_good passes = record { answer = passes.answer; is = passes.is; sound = sound_answer passes.answer passes.is passes.sound }

pub quick_checks_suffice : QuickChecksSuffice
quick_checks_suffice kit is short =
    let windows = short.windows in
    record {
      wires = short.wires;
      pins = short.pins;
      windows = record {
        name = windows.name;
        named = windows.named;
        each = λ place w here. window_good kit is short w (contained_at all_windows place w here) windows.name (windows.each place w here);
      };
    }
