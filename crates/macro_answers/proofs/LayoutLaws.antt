-- A macro is laid out around its column channel, or taps of a bank or pins of the main channel are too close.
use Rattle.std.proofs.Common.{◌≡◌, ◌≢◌, ◌⊎◌, inl, inr, ℕ, ◌<◌, ◌≤◌, ◌^◌, List, length, Some, refl, arith}
use Rattle.std.specs.declared.alloc.Global.{Global}
use Rattle.std.specs.declared.vec.Vec.{Vec}
use Rattle.tech_rules.specs.declared.tech.Wire.{Wire}
use Rattle.wire_drawing.specs.declared.route.RouteFault.{RouteFault}
use Rattle.wire_drawing.specs.declared.route.RouteFault.TheVariants as route_fault
use Rattle.tech_rules.specs.Facts.{IsWire}
use Rattle.channel_router.specs.declared.channel.Routed.{Routed}
use Rattle.sram_netlist.specs.Numbers.{ArePlanNumbers}
use Rattle.sram_plan.specs.declared.numbers.Plan.{Plan}
use Rattle.sram_plan.specs.PlanNumbers.{numbers_of, organization}
use Rattle.leaf_tables.specs.declared.kit.Kit.{Kit}
use Rattle.leaf_tables.specs.declared.part.PartFault.{PartFault}
use Rattle.leaf_tables.specs.declared.part.PartFault.TheVariants as part_fault
use Rattle.leaf_tables.specs.Kits.{IsKit}
use Rattle.leaf_tables.specs.Parts.{of_route}
use Rattle.floorplan.specs.LayoutOfKit.{layout_kit}
use Rattle.macro_bounds.proofs.NearLaws.{routed_shapes_are_near}
use Rattle.floorplan.specs.FloorplanNumbers.{floorplan_of}
use Rattle.bank_layout.proofs.BuiltLaws.{column_near}
use Rattle.bank_layout.proofs.GivenLaws.{AreGiven}
use Rattle.bank_layout.specs.BankTaps.{AreTapsApart, IsBankFault}
use Rattle.sram_macro.specs.declared.layout.Layout.{Layout}
use Rattle.sram_macro.specs.Layout.{IsMacroLayout, IsMacroLayoutFault, IsMainRouted}
use Rattle.channel_answers.specs.Answers.{ChannelsAreRouted, ClosePinsAreFound, CloseNumbersAreFound, RailsHaveShapes}
use Rattle.macro_answers.specs.Answers.{HasPartFault}
use Rattle.macro_answers.proofs.BankLaws.{bank_wires_there}
use Rattle.macro_answers.proofs.ColumnLaws.{HasColumn}
use Rattle.macro_answers.proofs.FloorplanLaws.{HasPlaces, kit_sides, places_there, sides_are, sides_of}
use Rattle.macro_answers.proofs.MainLaws.{main_answers}
use Rattle.macro_answers.proofs.TapLaws.{tap_answers}
use denote.RawPtr.{null_ptr}

-- a list as a program holds it, with this allocator
abbrev pub vec_of : {X : Type 0} → Global → (xs : List X) → length xs < 2 ^ 63 → Vec X Global
vec_of alloc xs few = record { ptr = null_ptr; len = length xs; cap = length xs; alloc = alloc; items = xs; ok = (refl, omega arith); small = few }

abbrev IsLayoutFault : Kit → Plan → Routed → PartFault → Type 0
IsLayoutFault kit plan column = IsMacroLayoutFault kit (organization plan) column

-- the macro is laid out, and its main channel has few shapes
pub record HasLayout (kit : Kit) (plan : Plan) (column : Routed) : Type 0 where
  pub layout : Layout
  pub is : IsMacroLayout kit (organization plan) column layout
  pub short : length layout.main.shapes ≤ 72057594037927936

real_route : (route : RouteFault) → route ≢ route_fault.Memory → of_route route ≢ part_fault.Memory
real_route (route_fault.Close side first second) real e = absurd cc
real_route (route_fault.TapsClose first second) real e = absurd cc
real_route route_fault.Memory real e = real refl

module _ (kit : Kit) (plan : Plan) (wire : Wire) (is : IsKit kit) (planned : ArePlanNumbers (numbers_of plan)) (wired : kit.tech.wire ≡ Some wire) (layers : IsWire kit.tech.layers wire) (column : HasColumn kit (organization plan)) where
  tap_fault : (main : ℕ) (places : HasPlaces kit (organization plan) wire (record { main = main; column = column.routed.tracks }))
      → HasPartFault (IsBankFault kit.leaves (organization plan) (layout_kit kit) wire (floorplan_of places.numbers) column.routed.track)
      → HasPartFault (IsLayoutFault kit plan column.routed)
  tap_fault main places close = record {
    fault = close.fault;
    real = close.real;
    is = (wire, wired, inl (record { tracks = main; floorplan = floorplan_of places.numbers; stands = places.stands; is = close.is }));
  }

  -- on a floorplan where no taps are too close
  laid_out : Global → RailsHaveShapes → (main : Routed) → IsMainRouted (organization plan) (layout_kit kit) wire main
      → length main.shapes ≤ 72057594037927936
      → (places : HasPlaces kit (organization plan) wire (record { main = main.tracks; column = column.routed.tracks }))
      → AreTapsApart kit.leaves (organization plan) (layout_kit kit) wire (floorplan_of places.numbers) column.routed.track
      → HasLayout kit plan column.routed
  laid_out alloc drawn main routed short places apart =
      let p = organization plan in
      let lk = layout_kit kit in
      let n = places.numbers in
      let stands = places.stands in
      let near = column_near routed_shapes_are_near kit.tech.layers kit p wire column.routed layers wired column.of in
      let g : AreGiven kit plan (kit_sides kit p) n wire column.routed =
      record { is = is; plan_is = planned; sides_are = sides_are kit p is; sides_of = sides_of kit p; near = places.near; wired = wired; given = record { stands = (main.tracks, stands); near = near } } in
      let bank = bank_wires_there drawn kit plan (kit_sides kit p) n wire column.routed g (column.of.stated wire (floorplan_of n) wired (record { row_x = stands.row_x; sense_y = stands.sense_y })) column.short in
      let few = bank.few in
      let held = vec_of alloc bank.list (omega (arith, few)) in
      record {
        layout = record { sides = kit_sides kit p; floorplan = n; ends = places.ends; bank = held; main = main };
        is = record {
          wire = wire;
          wired = wired;
          sides = sides_are kit p is;
          sides_of = sides_of kit p;
          stands = stands;
          near = places.near;
          ends = places.ends_are;
          near_ends = places.near_ends;
          power = places.power;
          ground = places.ground;
          bank_rises = bank.rises;
          bank = bank.drawable;
          bank_wires = bank.stated;
          taps_apart = apart;
          main = routed;
        };
        short = short;
      }

  pub layout_answers : Global → ChannelsAreRouted → ClosePinsAreFound → CloseNumbersAreFound → RailsHaveShapes
      → HasLayout kit plan column.routed ⊎ HasPartFault (IsLayoutFault kit plan column.routed)
  layout_answers alloc routes closes numbers drawn =
      let p = organization plan in
      let few = column.of.few in
      let begun = places_there kit plan wire (record { main = 0; column = column.routed.tracks }) is planned layers (record { main = omega arith; column = omega (arith, few) }) in
      elim (tap_answers numbers kit p wire (floorplan_of begun.numbers) column.routed.track is) [
        | inr close ↦ inr (tap_fault 0 begun close)
        | inl apart ↦ elim (main_answers routes closes kit plan wire (record { main = 0; column = column.routed.tracks }) is planned layers begun) [
          | inr fault ↦ inr (record {
            fault = of_route fault.0;
            real = real_route fault.0 fault.1;
            is = (wire, wired, inr (record { tracks = 0; floorplan = floorplan_of begun.numbers; stands = begun.stands; apart = apart; route = fault.0; is = fault.2; same = refl }));
          })
          | inl main ↦
              let most = main.1.few in
              let places = places_there kit plan wire (record { main = main.0.tracks; column = column.routed.tracks }) is planned layers (record { main = most; column = omega (arith, few) }) in
              elim (tap_answers numbers kit p wire (floorplan_of places.numbers) column.routed.track is) [
                | inr close ↦ inr (tap_fault main.0.tracks places close)
                | inl still ↦ inl (laid_out alloc drawn main.0 main.1 main.2 places still)
              ]
        ]
      ]
