-- The small memories of a good kit's plan are windows.
use Rattle.std.proofs.Common.{◌≡◌, ◌⊎◌, inl, inr, ℕ, zero, suc, ◌*◌, ◌<◌, ◌≤◌, List, ◌++◌, refl, sym, ap, subst, arith}
use Rattle.std.proofs.lemmas.Bool.{cases_lt}
use Rattle.netlist.specs.declared.deck.Deck.{Deck}
use Rattle.netlist.specs.declared.deck.Subckt.{Subckt}
use Rattle.netlist.specs.declared.rows.RowPin.{RowPin}
use Rattle.spice_netlist.specs.Faults.{AreFlatRows}
use Rattle.sram_netlist.specs.Numbers.{ArePlanNumbers}
use Rattle.sram_netlist.specs.Organization.{Organization, IsBuildable, IsWritten}
use Rattle.sram_plan.specs.declared.numbers.Plan.{Plan}
use Rattle.sram_plan.specs.PlanNumbers.{numbers_of, organization}
use Rattle.sram_rows.specs.Rows.{netlist_pins, RowsEqual}
use Rattle.sram_rows.proofs.Final.{rows_equal}
use Rattle.port_lists.specs.Cells.{cell_in}
use Rattle.port_lists.specs.Held.Held.{Stored}
use Rattle.leaf_tables.specs.declared.kit.Kit.{Kit}
use Rattle.leaf_tables.specs.Kits.{IsKit}
use Rattle.floorplan.specs.LayoutOfKit.{layout_kit}
use Rattle.macro_layout.specs.Floorplan.{Tracks}
use Rattle.macro_layout.specs.Places.{Floorplan}
use Rattle.port_data.specs.Column.{AreWideSlices}
use Rattle.sram_macro.specs.declared.assembly.Macro.{Macro}
use Rattle.sram_macro.specs.Leaves.{leaf_names}
use Rattle.sram_macro.specs.Macro.{IsMacro, macro_bits}
use Rattle.kit_check.specs.Quick.{AreNetsLookedAt, PassesQuickCheck}
use Rattle.kit_check.specs.Makers.{role_cells}
use Rattle.macro_maker.specs.Assembled.{IsAssembled}
use Rattle.good_places.specs.Windows.{with_bits, IsWrittenPlan}
use Rattle.good_windows.proofs.ListedLaws.{IsSize, all_at_once, one_by_one}
use Rattle.clean_windows.specs.Sound.{HasPassingWindow, IsWrittenOfRows}
use Rattle.clean_windows.proofs.SoundLaws.{sized}
use Rattle.drawn_memories.proofs.DrawnLaws.{macros_are_drawn, drawn_own}
use Rattle.bound_labels.proofs.BoundLaws.{bound_labels_stay}
use Rattle.wired_macros.proofs.JoinedMacroLaws.{stated_window}
use Rattle.small_rows.specs.Few.{IsFewBits}
use Rattle.seen_pairs.specs.Window.{HasSeenWindow}
use Rattle.wired_kits.specs.KitMacros.{source_of_kit}
use Rattle.wired_kits.proofs.KitMacroLaws.{leaf_lists, kit_source, kit_stated, kit_wired, kit_leaves_inside}
use Rattle.apart_macros.proofs.ApartLaws.{macros_are_apart}
use Rattle.good_matches.specs.Window.{IsWindowThere}
use Rattle.good_matches.proofs.SourceLaws.{drawn_source}

-- A small memory has as many bits, at most four.

few_word : (n : ℕ) → 0 < n → (k : ℕ) × (((k ≡ n) × (k ≤ 4)) ⊎ ((k ≡ 4) × (4 ≤ n))) × (1 ≤ k) × (k ≤ 4) × (2 ≤ n → 2 ≤ k)
few_word n some = elim (cases_lt n 5) [
  | inl few ↦ (n, inl (refl, omega (arith, few)), omega (arith, some), omega (arith, few), λ two. two)
  | inr more ↦ (4, inr (refl, omega (arith, more)), omega arith, omega arith, λ two. omega arith)
]

two_bits : (masks write : ℕ) → 2 ≤ masks → 0 < write → 2 ≤ masks * write
two_bits zero write two some = absurd (omega (arith, two))
two_bits (suc zero) write two some = absurd (omega (arith, two))
two_bits (suc (suc m)) zero two some = absurd (omega (arith, some))
two_bits (suc (suc m)) (suc w) two some = omega arith

-- of which it is one of the listed sizes
record HasFewBits (plan : Organization) : Type 0 where
  word : ℕ
  write : ℕ
  masks : ℕ
  few : IsFewBits plan word write masks
  size : IsSize word write masks

at_most_four : (plan : Organization) (word write masks : ℕ) → IsFewBits plan word write masks → word ≤ 4
at_most_four plan word write masks is = elim is.few [ inl all ↦ all.1 | inr four ↦ (let e = four.0 in omega (arith, e)) ]

few_bits : (plan : Organization) → IsBuildable plan → IsWrittenPlan plan → HasFewBits plan
few_bits plan build written = by written.masks where
  k : (k : ℕ) × (((k ≡ plan.word_size) × (k ≤ 4)) ⊎ ((k ≡ 4) × (4 ≤ plan.word_size))) × (1 ≤ k) × (k ≤ 4) × (2 ≤ plan.word_size → 2 ≤ k)
  k = few_word plan.word_size build.words

  wide : 2 ≤ plan.masks → (plan.masks ≡ 0) ⊎ ((0 < plan.write_size) × (plan.masks * plan.write_size ≡ plan.word_size)) → 2 ≤ plan.word_size
  wide two (inl none) = absurd (omega (arith, two, none))
  wide two (inr (some, all)) = subst (λ (n : ℕ). 2 ≤ n) all (two_bits plan.masks plan.write_size two some)

  by : (plan.masks ≡ 0) ⊎ (2 ≤ plan.masks) → HasFewBits plan
  by (inl none) = record { word = k.0; write = k.0; masks = 0; few = record { few = k.1; written = k.2; masks_are = inl (none, refl) }; size = all_at_once k.0 k.2 k.3 }
  by (inr two) =
      let more = k.4 (wide two build.masks) in
      record { word = k.0; write = 1; masks = k.0; few = record { few = k.1; written = omega arith; masks_are = inr (two, more, refl, refl) }; size = one_by_one k.0 more k.3 }

-- The flat rows of a macro are those of the reference netlist.
pub rows_equal_of : (kit : Kit) (plan : Plan) (name : List ℕ) (m : Macro) → ArePlanNumbers (numbers_of plan) → IsMacro kit plan Stored name m → (rows : List RowPin) → AreFlatRows (kit.deck.subckts ++ m.deck.subckts) name (role_cells kit) rows
    → RowsEqual rows (netlist_pins (organization plan) (cell_in kit.tech.roles) (macro_bits kit plan Stored))
rows_equal_of kit plan name m numbers is rows flat =
    (rows_equal (organization plan) (cell_in kit.tech.roles) (macro_bits kit plan Stored) (leaf_names kit Stored) kit.deck.subckts name name numbers.plan is.leaves refl).0.rows rows
    (subst (λ (l : List Subckt). AreFlatRows (kit.deck.subckts ++ l) name (role_cells kit) rows) (ap (λ (d : Deck). d.subckts) is.deck) flat)

module _ (kit : Kit) (is : IsKit kit) (good : PassesQuickCheck IsAssembled kit) where
  -- a window of the kit, stated
  of_window : (memory : Organization) → HasPassingWindow kit memory → AreNetsLookedAt memory → IsWritten memory → IsWindowThere kit (leaf_lists kit is good.pins) is.wire memory
  of_window memory w looked some = subst (IsWindowThere kit (leaf_lists kit is good.pins) is.wire) w.is (by (subst IsWritten (sym w.is) some)) where
    by : IsWritten (organization w.plan) → IsWindowThere kit (leaf_lists kit is good.pins) is.wire (organization w.plan)
    by written =
        let lists = w.sound.lists in
        let matching = w.sound.matching (subst AreNetsLookedAt (sym w.is) looked) in
        let d = macros_are_drawn kit w.plan w.name w.macro lists is w.numbers written w.made w.sound.flat in
        let build = w.numbers.plan in
        let wired = kit_wired kit is good.pins (organization w.plan) build written lists d in
        let s = kit_source kit is good.pins (organization w.plan) build written lists d in
        let equal = rows_equal_of kit w.plan w.name w.macro w.numbers w.made matching.rows matching.are.netlist in
        let own = drawn_own kit w.plan w.name w.macro lists is w.numbers written w.made w.sound.flat in
        let cells = (kit_stated kit is good.pins (organization w.plan) build written lists d).flat_cells in
        let free = macros_are_apart kit w.plan w.name w.macro (leaf_lists kit is good.pins) d.tracks d.floorplan is good.pins w.numbers w.made own.0 own.1 cells w.sound.apart in
        let inside = kit_leaves_inside kit is good.pins (organization w.plan) build written lists d in
        let stays = bound_labels_stay kit.tech s lists wired inside matching.labels matching.are.nets matching.rows equal matching.alike free in
        record {
          tracks = d.tracks;
          floorplan = d.floorplan;
          source = drawn_source kit is good (organization w.plan) build written lists d;
          flat = lists;
          labels = matching.labels;
          rows = matching.rows;
          stated = stated_window kit.tech s lists wired stays matching.labels matching.are.nets matching.rows equal matching.alike free;
        }

  -- A plan's memory has a window.
  pub seen_window : (plan : Plan) → IsWrittenOfRows plan → IsWrittenPlan (organization plan) → AreWideSlices (organization plan) (layout_kit kit) → (tracks : Tracks) (floorplan : Floorplan)
      → HasSeenWindow kit.tech.connects (source_of_kit kit (leaf_lists kit is good.pins) (organization plan) is.wire tracks floorplan)
  seen_window plan planned written wide tracks floorplan =
      let few = few_bits (organization plan) planned.numbers.plan written in
      let w = of_window (with_bits (organization plan) few.word few.write few.masks) (sized kit plan is good planned wide few.word few.write few.masks few.size) (at_most_four (organization plan) few.word few.write few.masks few.few) few.few.written in
      record {
        word = few.word;
        write = few.write;
        masks = few.masks;
        size = few.few;
        tracks = w.tracks;
        floorplan = w.floorplan;
        source = w.source;
        flat = w.flat;
        labels = w.labels;
        rows = w.rows;
        stated = w.stated;
      }
