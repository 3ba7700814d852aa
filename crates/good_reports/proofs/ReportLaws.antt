-- For a good kit no macro breaks a rule.
use Rattle.std.proofs.Common.{◌≡◌, ◌⊎◌, inl, inr, ◌∙◌, ℕ, zero, suc, ◌*◌, ◌/◌, ◌==◌, ◌<◌, ◌≤◌, ℤ, List, [], ◌∷◌, Bool, true, false, refl, sym, ap, subst, arith}
use Rattle.std.specs.Prelude.{if◌then◌else◌}
use Rattle.std.proofs.lemmas.Bool.{eq-eqb}
use Rattle.or_geom.specs.declared.shape.Shape.{Shape}
use Rattle.or_geom.proofs.ListLaws.{contains_none, contains_first}
use Rattle.gds_library.specs.declared.library.Library.{Library}
use Rattle.netlist.specs.declared.deck.Deck.{Deck}
use Rattle.cell_hierarchy.specs.FlatLists.{AreFlatLists}
use Rattle.cell_hierarchy.specs.Plain.{FlatLists}
use Rattle.tile_checker.specs.declared.violation.Violation.{Violation}
use Rattle.tile_checker.specs.RuleReport.{IsReport}
use Rattle.cell_roles.specs.declared.role.Role.TheVariants.{Bitcell}
use Rattle.cell_hierarchy.specs.FlatSet.{IsFlatShape}
use Rattle.tech_rules.specs.declared.tech.Rule.{Rule}
use Rattle.sram_netlist.specs.Organization.{Organization, IsWritten}
use Rattle.sram_netlist.specs.BitCells.{Alike}
use Rattle.sram_netlist.specs.Numbers.{ArePlanNumbers}
use Rattle.sram_plan.specs.declared.config.Config.{Config}
use Rattle.sram_plan.specs.declared.numbers.Plan.{Plan}
use Rattle.sram_plan.specs.Config.{IsConfig}
use Rattle.sram_plan.specs.Plan.{IsPlanOf, row_groups}
use Rattle.sram_plan.specs.PlanNumbers.{numbers_of, organization}
use Rattle.sram_plan.proofs.PlanLaws.{plan_numbers}
use Rattle.port_lists.specs.Cells.{cell_in}
use Rattle.port_lists.specs.Held.Held.{Stored}
use Rattle.leaf_tables.specs.declared.kit.Kit.{Kit}
use Rattle.leaf_tables.specs.Kits.{IsKit}
use Rattle.floorplan.specs.LayoutOfKit.{layout_kit}
use Rattle.floorplan.proofs.DemandLaws.{wire_there}
use Rattle.sram_macro.specs.declared.assembly.Macro.{Macro}
use Rattle.sram_macro.specs.Macro.{IsMacro}
use Rattle.kit_rules.specs.Reach.{IsOverhang, IsShortReach, reach_with}
use Rattle.kit_check.specs.Quick.{PassesQuickCheck}
use Rattle.kit_check.proofs.QuickLaws.{good_kits_pass}
use Rattle.macro_maker.specs.Assembled.{IsAssembled}
use Rattle.good_places.specs.Windows.{IsWindowOf, IsWrittenPlan}
use Rattle.good_windows.specs.Short.{HasShortReach}
use Rattle.good_windows.proofs.ShortLaws.{good_kits_are_short}
use Rattle.good_wires.specs.Kept.{IsAmong}
use Rattle.leaf_margins.specs.Memories.{IsCleanLayout}
use Rattle.clean_windows.specs.Sound.{HasSoundWindow, IsWrittenOfRows}
use Rattle.clean_windows.proofs.SoundLaws.{clean_window}
use Rattle.high_cells.proofs.HighLaws.{cells_are_high}
use Rattle.kept_rules.proofs.AllowedLaws.{is_kept_rule}
use Rattle.kept_rules.proofs.KeptLaws.{reports_are_empty}
use Rattle.drawn_memories.specs.Ports.{ports_below, ports_above, ports_over, drop_of}
use Rattle.drawn_memories.proofs.DrawnLaws.{macros_are_drawn}
use Rattle.good_reports.specs.Reports.{BreaksNoRule, GoodKitsBreakNoRule}
use Rattle.good_reports.proofs.OverhangLaws.{overhang_there}
use Rattle.good_reports.proofs.ShapeLaws.{memory_shapes, clean_layout}

-- A plan's memory has words of bits, which are written, and no single mask.

pub some_masks : (masks word write : ℕ) → masks ≡ (if write == word then 0 else word / write) → (masks ≡ 0) ⊎ ((0 < write) × (masks * write ≡ word)) → (masks ≡ 0) ⊎ (2 ≤ masks)
some_masks zero word write is cut = inl refl
some_masks (suc zero) word write is (inl none) = absurd (omega (arith, none))
some_masks (suc zero) word write is (inr cut) = absurd (by (write == word) (eq-eqb write word (let e = cut.1 in omega (arith, e))) is) where
  by : (b : Bool) → b ≡ true → 1 ≡ (if b then 0 else word / write) → ⊥
  by true e is = omega (arith, is)
  by false e is = absurd cc
some_masks (suc (suc n)) word write is cut = inr (omega arith)

pub some_written : (config : Config) (plan : Plan) → IsConfig config → IsPlanOf config plan → IsWritten (organization plan)
some_written config plan is of = let some = is.some_written in let same = of.with.write_size in omega (arith, some, same)

abbrev masks_with : ℕ → ℕ → ℕ
masks_with word write = if write == word then 0 else word / write

pub written_plan : (config : Config) (plan : Plan) → IsConfig config → IsPlanOf config plan → ArePlanNumbers (numbers_of plan) → IsWrittenPlan (organization plan)
written_plan config plan is of numbers = record {
  words = numbers.plan.words;
  written = some_written config plan is of;
  masks = some_masks plan.masks plan.word_size plan.write_size (of.with.masks ∙ (λ i. masks_with (sym of.with.word_size i) (sym of.with.write_size i))) numbers.plan.masks;
}

pub written_of_rows : (config : Config) (plan : Plan) → IsConfig config → IsPlanOf config plan → IsWrittenOfRows plan
written_of_rows config plan is of = record { numbers = plan_numbers config plan is of; groups = of.with.groups ∙ ap row_groups (sym of.with.rows); written = some_written config plan is of }

-- each small memory is written
window_written : (plan other : Organization) → IsWindowOf plan other → IsWritten other
window_written plan other (inl w) = subst IsWritten (sym w.3) (let some = w.1 in omega (arith, some))
window_written plan other (inr e) = subst IsWritten (sym e) (omega arith)

-- An empty report is no other.
not_empty : (rules : List Rule) (shapes : List Shape) (v : Violation) (more : List Violation) → IsReport rules shapes [] → IsReport rules shapes (v ∷ more) → ⊥
not_empty rules shapes v more none some = contains_none v (none.each v (some.only v (contains_first v more)))

-- A plan whose memory is written, for a kit that passes the quick check.
module _ (kit : Kit) (plan : Plan) (is : IsKit kit) (good : PassesQuickCheck IsAssembled kit) (planned : IsWrittenOfRows plan) (written : IsWrittenPlan (organization plan)) where
  overhang : (overhang : ℤ) × IsOverhang kit overhang
  overhang = overhang_there kit is

  reach : IsShortReach kit is.wire overhang.0
  reach = good.wires.reach is.wire overhang.0 is.wired overhang.1

  short : HasShortReach kit is.wire overhang.0
  short = good_kits_are_short kit is.wire overhang.0 is overhang.1 reach

  -- a window of the plan, flat
  window : (other : Organization) → IsWindowOf (organization plan) other → HasSoundWindow kit other
      → IsCleanLayout (IsAmong ports_below) (IsAmong ports_above) (IsAmong ports_over) (drop_of (layout_kit kit)) (IsFlatShape kit.tech.layers kit.lib.structs) kit.tech.rules other (layout_kit kit) (Alike (cell_in kit.tech.roles Bitcell)) is.wire overhang.0
  window other is_window w =
      let lists = w.faultless.matching.lists in
      let clean = w.faultless.matching.clean in
      subst (λ (memory : Organization). IsCleanLayout (IsAmong ports_below) (IsAmong ports_above) (IsAmong ports_over) (drop_of (layout_kit kit)) (IsFlatShape kit.tech.layers kit.lib.structs) kit.tech.rules memory (layout_kit kit) (Alike (cell_in kit.tech.roles Bitcell)) is.wire overhang.0) w.is
      (clean_layout kit is overhang.0 overhang.1 (organization w.plan) lists (macros_are_drawn kit w.plan w.name w.macro lists is w.numbers (subst IsWritten (sym w.is) (window_written (organization plan) other is_window)) w.made clean.flat) clean.clean)

  clean_macro : (name : List ℕ) (m : Macro) (lists : FlatLists) → IsMacro kit plan Stored name m → AreFlatLists kit.tech.layers m.lib.structs name lists → IsReport kit.tech.rules lists.shapes []
  clean_macro name m lists made flat =
      let d = macros_are_drawn kit plan name m lists is planned.numbers planned.written made flat in
      reports_are_empty ports_below ports_above ports_over (drop_of (layout_kit kit)) kit.tech.layers kit.lib.structs kit.tech.rules (organization plan) (layout_kit kit) (cell_in kit.tech.roles Bitcell) is.wire d.tracks d.floorplan overhang.0 (reach_with kit overhang.0) lists.shapes
      written short.short short.from (memory_shapes kit is overhang.0 overhang.1 (organization plan) lists d) d.reaches
      (record { four = (wire_there kit is).four; three = (wire_there kit is).three }) reach.inside (cells_are_high kit is good.pins)
      (λ other is_window. window other is_window (clean_window kit plan is good planned made.wide other is_window))
      (λ rule listed. is_kept_rule kit is good.wires overhang.0 short rule listed)

  pub breaks_no_rule : (name : List ℕ) → BreaksNoRule kit plan name
  breaks_no_rule name = record {
    clean = λ made lists assembled flat. (let m = assembled.0 in clean_macro name m lists assembled.1 (subst (λ (a : Library × Deck). AreFlatLists kit.tech.layers a.0.structs name lists) assembled.2 flat));
    unrefused = λ violation b. not_empty kit.tech.rules b.lists.shapes violation b.more (clean_macro name b.macro b.lists b.checked.is b.checked.flat) b.checked.reported;
  }

pub good_kits_break_no_rule : GoodKitsBreakNoRule
good_kits_break_no_rule kit config plan name is good is_config of =
    breaks_no_rule kit plan is (good_kits_pass IsAssembled kit good) (written_of_rows config plan is_config of) (written_plan config plan is_config of (plan_numbers config plan is_config of)) name
