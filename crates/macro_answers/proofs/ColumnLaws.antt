-- The column channel of any plan: two of its pins are the first that are too close, or it is routed.
use Rattle.std.proofs.Common.{◌≡◌, ◌⊎◌, inl, inr, ℕ, ◌≤◌, length, ◌*◌, ◌<◌, Some, refl, sym, subst, ◌∙◌, arith}
use Rattle.std.proofs.lemmas.Bool.{cases_lt}
use Rattle.std.proofs.lemmas.Option.{same_Some}
use Rattle.cell_roles.specs.Roles.{role_name}
use Rattle.cell_roles.specs.declared.role.Role.TheVariants.{Bitcell, Sense, Write}
use Rattle.tech_rules.specs.declared.tech.Wire.{Wire}
use Rattle.tech_rules.specs.Facts.{AreSizes, IsWire}
use Rattle.channel_router.specs.declared.channel.Routed.{Routed}
use Rattle.channel_router.specs.Routed.{HasClosePins, IsRouted}
use Rattle.sram_netlist.specs.Organization.{Organization, words_per_row}
use Rattle.sram_netlist.specs.Numbers.{ArePlanNumbers}
use Rattle.sram_plan.specs.declared.numbers.Plan.{Plan}
use Rattle.sram_plan.specs.PlanNumbers.{numbers_of, organization}
use Rattle.leaf_tables.specs.declared.kit.Kit.{Kit}
use Rattle.leaf_tables.specs.declared.part.PartFault.TheVariants as part_fault
use Rattle.wire_drawing.specs.declared.route.RouteFault.TheVariants as route_fault
use Rattle.leaf_tables.specs.Kits.{IsKit}
use Rattle.macro_layout.specs.LayoutKit.{LayoutKit}
use Rattle.floorplan.specs.LayoutOfKit.{layout_kit}
use Rattle.port_data.specs.Column.{AreWideSlices, IsColumnFault, IsColumnOf, IsNarrowFault, IsNearColumnRouted}
use Rattle.port_data.specs.DataPart.{IsDataRefused}
use Rattle.port_data.specs.Pins.{column_channel}
use Rattle.port_data.proofs.ChannelLaws.{is_channel, is_near}
use Rattle.port_data.proofs.KitLaws.{near_kit}
use Rattle.port_data.proofs.RoutedLaws.{column_fault, column_routed}
use Rattle.channel_answers.specs.Answers.{ChannelsAreRouted, ClosePinsAreFound, HasRouting}
use Rattle.macro_answers.specs.Answers.{HasPartFault}

-- Slices

decide_sense : (plan : Organization) (kit : LayoutKit)
    → (kit.width Sense ≤ words_per_row plan * kit.width Bitcell) ⊎ (words_per_row plan * kit.width Bitcell < kit.width Sense)
decide_sense plan kit = elim (cases_lt (words_per_row plan * kit.width Bitcell) (kit.width Sense)) [ inl less ↦ inr less | inr le ↦ inl le ]

decide_written : (n : ℕ) → (0 < n) ⊎ (n ≡ 0)
decide_written n = elim (cases_lt 0 n) [ inl some ↦ inl some | inr none ↦ inr (omega (arith, none)) ]

-- no slice is too narrow, or there is the first that is
pub slices_answer : (plan : Organization) (kit : LayoutKit) → AreWideSlices plan kit ⊎ HasPartFault (IsNarrowFault plan kit)
slices_answer plan kit = elim (decide_sense plan kit) [
  | inr narrow ↦ inr (record { fault = part_fault.SliceTooNarrow (role_name Sense); real = λ e. absurd cc; is = inl (refl, narrow) })
  | inl sense ↦ elim (cases_lt (words_per_row plan * kit.width Bitcell) (kit.width Write)) [
    | inr write ↦ inl (record { sense = sense; write = λ written. write })
    | inl narrow ↦ elim (decide_written plan.write_size) [
      | inl written ↦ inr (record { fault = part_fault.SliceTooNarrow (role_name Write); real = λ e. absurd cc; is = inr (refl, written, sense, narrow) })
      | inr none ↦ inl (record { sense = sense; write = λ written. absurd (omega (arith, written, none)) })
    ]
  ]
]

-- The channel

-- the column channel is routed, with few shapes
pub record HasColumn (kit : Kit) (plan : Organization) : Type 0 where
  pub routed : Routed
  pub of : IsColumnOf kit plan routed
  pub short : length routed.shapes ≤ 18014398509481984

column_is : (kit : Kit) (plan : Plan) (wire : Wire) → IsKit kit → ArePlanNumbers (numbers_of plan) → kit.tech.wire ≡ Some wire
    → IsWire kit.tech.layers wire → (HasClosePins (column_channel (organization plan) (layout_kit kit) wire) wire → ⊥)
    → HasRouting (column_channel (organization plan) (layout_kit kit) wire) wire → HasColumn kit (organization plan)
column_is kit plan wire is planned wired layers apart r =
    let p = organization plan in
    let lk = layout_kit kit in
    let near_all = near_kit kit plan wire is planned layers.sizes in
    let near = is_near p lk wire near_all in
    let routed = r.routed in
    record {
      routed = routed;
      of = record {
        words = planned.plan.words;
        few = let few = r.few in let nets = near.nets in omega (arith, few, nets);
        each = r.each;
        near = λ other e. subst (λ (w : Wire). IsNearColumnRouted w routed) (same_Some wire other (sym wired ∙ e)) (record { channel = column_channel p lk wire; near = near; intervals = r.intervals; is = r.is });
        stated = λ other floorplan e bank.
            let same = same_Some wire other (sym wired ∙ e) in
            column_routed p lk other floorplan r.intervals routed (subst AreSizes same layers.sizes) bank (subst (λ (w : Wire). IsRouted (column_channel p lk w) w r.intervals routed) same r.is);
        apart = λ other e close. apart (subst (λ (w : Wire). HasClosePins (column_channel p lk w) w) (sym (same_Some wire other (sym wired ∙ e))) close);
      };
      short = let short = r.short in let nets = near.nets in omega (arith, short, nets);
    }

pub column_answers : ChannelsAreRouted → ClosePinsAreFound → (kit : Kit) (plan : Plan) (wire : Wire) → IsKit kit → ArePlanNumbers (numbers_of plan)
    → kit.tech.wire ≡ Some wire → IsWire kit.tech.layers wire
    → HasColumn kit (organization plan) ⊎ HasPartFault (IsColumnFault (organization plan) (layout_kit kit) wire)
column_answers routes closes kit plan wire is planned wired layers =
    let p = organization plan in
    let lk = layout_kit kit in
    let ch = column_channel p lk wire in
    elim (closes ch wire) [
      | inl apart ↦ inl (column_is kit plan wire is planned wired layers apart (routes ch wire (is_channel p lk wire (near_kit kit plan wire is planned layers.sizes)) layers.sizes))
      | inr close ↦ inr (record { fault = part_fault.Close close.0 close.1 close.2; real = λ e. absurd cc; is = column_fault p lk wire (route_fault.Close close.0 close.1 close.2) close.3 })
    ]

-- slices and the channel
pub data_answers : ChannelsAreRouted → ClosePinsAreFound → (kit : Kit) (plan : Plan) (wire : Wire) → IsKit kit → ArePlanNumbers (numbers_of plan)
    → kit.tech.wire ≡ Some wire → IsWire kit.tech.layers wire
    → (AreWideSlices (organization plan) (layout_kit kit) × HasColumn kit (organization plan)) ⊎ HasPartFault (IsDataRefused kit (organization plan))
data_answers routes closes kit plan wire is planned wired layers = elim (slices_answer (organization plan) (layout_kit kit)) [
  | inr narrow ↦ inr (record { fault = narrow.fault; real = narrow.real; is = inl narrow.is })
  | inl wide ↦ elim (column_answers routes closes kit plan wire is planned wired layers) [
    | inl column ↦ inl (wide, column)
    | inr close ↦ inr (record {
      fault = close.fault;
      real = close.real;
      is = inr (wide, λ other e. subst (λ (w : Wire). IsColumnFault (organization plan) (layout_kit kit) w close.fault) (same_Some wire other (sym wired ∙ e)) close.is);
    })
  ]
]
