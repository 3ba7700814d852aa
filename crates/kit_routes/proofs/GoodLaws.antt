-- For a good kit and each plan, routing faults don't come, and a cell is too wide exactly by its width.
use Rattle.std.proofs.Common.{◌≡◌, inl, inr, ℕ, ℤ, List, Some, sym, ap, subst, ◌∙◌, arith}
use Rattle.std.proofs.lemmas.Option.{same_Some}
use Rattle.wire_drawing.specs.declared.route.RouteFault.{RouteFault}
use Rattle.wire_drawing.specs.declared.route.RouteFault.TheVariants as route_fault
use Rattle.tech_rules.specs.declared.tech.Wire.{Wire}
use Rattle.sram_netlist.specs.Organization.{Organization}
use Rattle.sram_plan.specs.declared.config.Config.{Config}
use Rattle.sram_plan.specs.declared.numbers.Plan.{Plan}
use Rattle.sram_plan.specs.Config.{IsConfig}
use Rattle.sram_plan.specs.Plan.{IsPlanOf, row_groups}
use Rattle.sram_plan.specs.PlanNumbers.{organization}
use Rattle.sram_plan.proofs.PlanLaws.{plan_numbers}
use Rattle.leaf_tables.specs.declared.kit.Kit.{Kit}
use Rattle.leaf_tables.specs.declared.part.PartFault.TheVariants as part_fault
use Rattle.leaf_tables.specs.Kits.{IsKit}
use Rattle.leaf_tables.specs.Parts.{of_route}
use Rattle.floorplan.specs.LayoutOfKit.{layout_kit}
use Rattle.macro_layout.specs.Floorplan.{IsFloorplan}
use Rattle.macro_layout.specs.Places.{Floorplan}
use Rattle.channel_router.specs.declared.channel.Routed.{Routed}
use Rattle.port_data.specs.Column.{AreWideSlices, IsColumnOf}
use Rattle.bank_layout.specs.BankTaps.{AreTapsClose}
use Rattle.sram_macro.specs.Layout.{IsMainFault}
use Rattle.sram_macro.specs.Macro.{IsPartsFault}
use Rattle.kit_check.specs.Quick.{PassesQuickCheck}
use Rattle.kit_check.proofs.QuickLaws.{good_kits_pass}
use Rattle.macro_maker.specs.Assembled.{IsAssembled}
use Rattle.kit_routes.specs.Routes.{IsMacroRefused, GoodKitsRoute}
use Rattle.route_laws.proofs.KindLaws.{some_written}
use Rattle.kit_routes.proofs.ModelLaws.{IsPlanned}
use Rattle.kit_routes.proofs.FaultLaws.{model_judged, model_wide, pins_free, narrow_exactly}
use Rattle.kit_routes.proofs.TapsFreeLaws.{taps_apart}

-- what is refused for its taps
record HasCloseTaps (kit : Kit) (plan : Organization) (wire : Wire) (a b : ℤ) : Type 0 where
  wide : AreWideSlices plan (layout_kit kit)
  column : Routed
  of : IsColumnOf kit plan column
  tracks : ℕ
  floorplan : Floorplan
  stands : IsFloorplan plan (layout_kit kit) wire (record { main = tracks; column = column.tracks }) floorplan
  close : AreTapsClose kit.leaves plan (layout_kit kit) wire floorplan column.track a b

no_main : (kit : Kit) (plan : Organization) (wire : Wire) (a b : ℤ) (route : RouteFault) → IsMainFault plan (layout_kit kit) wire route → part_fault.TapsClose a b ≡ of_route route → ⊥
no_main kit plan wire a b (route_fault.Close s c d) is same = absurd cc
no_main kit plan wire a b (route_fault.TapsClose c d) is same = is
no_main kit plan wire a b route_fault.Memory is same = absurd cc

taps_parts : (kit : Kit) (plan : Organization) (wire : Wire) (a b : ℤ) → kit.tech.wire ≡ Some wire → IsPartsFault kit plan (part_fault.TapsClose a b) → HasCloseTaps kit plan wire a b
taps_parts kit plan wire a b wired (inl (inl p)) = absurd p
taps_parts kit plan wire a b wired (inl (inr p)) = absurd (p.1 wire wired)
taps_parts kit plan wire a b wired (inr (wide, (column, of, (w, e, inl p)))) =
    subst (λ (v : Wire). HasCloseTaps kit plan v a b) (same_Some w wire (sym e ∙ wired))
    (record { wide = wide; column = column; of = of; tracks = p.tracks; floorplan = p.floorplan; stands = p.stands; close = p.is })
taps_parts kit plan wire a b wired (inr (wide, (column, of, (w, e, inr p)))) = absurd (no_main kit plan w a b p.route p.is p.same)

taps_free : (kit : Kit) (plan : Plan) (name : List ℕ) (is : IsKit kit) → PassesQuickCheck IsAssembled kit → IsPlanned plan → (a b : ℤ) → IsMacroRefused kit plan name (part_fault.TapsClose a b) → ⊥
taps_free kit plan name is good planned a b (_, inl taken) = taken
taps_free kit plan name is good planned a b (_, inr (free, parts)) =
    let c = taps_parts kit (organization plan) is.wire a b is.wired parts in
    elim (model_judged kit plan is.wire is.wired good planned) [
      | inl laid ↦ taps_apart kit is (organization plan) c.column c.tracks c.floorplan a b planned.written (some_written plan.masks) laid c.of c.stands c.close
      | inr narrow ↦ narrow (model_wide (organization plan) (layout_kit kit) planned.written c.wide)
    ]

planned_of : (config : Config) (plan : Plan) → IsConfig config → IsPlanOf config plan → IsPlanned plan
planned_of config plan is of =
    let some = is.some_written in
    let same = of.with.write_size in
    record { numbers = plan_numbers config plan is of; groups = of.with.groups ∙ ap row_groups (sym of.with.rows); written = omega (arith, some, same) }

pub good_kits_route : GoodKitsRoute
good_kits_route kit config plan name is good is_config of =
    let planned = planned_of config plan is_config of in
    let short = good_kits_pass IsAssembled kit good in
    record {
      pins = pins_free kit plan name is short planned;
      taps = taps_free kit plan name is short planned;
      narrow = narrow_exactly kit plan name is planned;
    }
