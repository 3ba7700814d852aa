-- The wires of a bank, each once and in order.
use Rattle.std.proofs.Common.{◌≡◌, ◌⊎◌, inl, inr, ℕ, ◌+◌, ◌≤◌, ℤ, pos, ◌+ℤ◌, ◌-ℤ◌, ◌<ℤ◌, List, length, ◌++◌, refl, sym, ◌∙◌, arith}
use Rattle.std.specs.Prelude.{Contains, slice_index}
use Rattle.std.specs.List.Sorted.{IsStrictlySortedBy}
use Rattle.std.proofs.lemmas.Bool.{cases_lt}
use Rattle.std.proofs.lemmas.List.{length-append}
use Rattle.std.proofs.lemmas.Int.{ints}
use Rattle.or_geom.specs.Adds.{Adds}
use Rattle.or_geom.specs.Gathering.{SomeGives}
use Rattle.or_geom.specs.ShapeOrder.{shape_order}
use Rattle.or_geom.specs.declared.shape.Shape.{Shape}
use Rattle.or_geom.proofs.PlaceLaws.{same_rect}
use Rattle.or_geom.proofs.GatheringLaws.{giver, gives_some}
use Rattle.tech_rules.specs.declared.tech.Wire.{Wire}
use Rattle.wire_drawing.specs.Drawing.{IsBox}
use Rattle.channel_router.specs.declared.channel.Routed.{Routed}
use Rattle.sram_netlist.specs.Organization.{IsBuildable, IsWritten, Organization, inputs_of, words_per_row}
use Rattle.sram_netlist.specs.InstanceList.{tabulate}
use Rattle.sram_plan.specs.declared.numbers.Plan.{Plan}
use Rattle.sram_plan.specs.PlanNumbers.{organization}
use Rattle.leaf_tables.specs.declared.kit.Kit.{Kit}
use Rattle.leaf_tables.specs.Kits.{IsKit}
use Rattle.cell_roles.specs.declared.role.Role.TheVariants.{Sense}
use Rattle.macro_layout.specs.LayoutKit.{LayoutKit}
use Rattle.macro_layout.specs.Places.{Floorplan, bit_width, columns_x}
use Rattle.macro_layout.specs.Floorplan.{rail_count, rail_x}
use Rattle.macro_layout.specs.Stated.{IsShifted}
use Rattle.macro_layout.specs.Wires.{IsCornerJoiner, IsWriteJoiner, columns_end}
use Rattle.floorplan.specs.LayoutOfKit.{layout_kit}
use Rattle.macro_bounds.proofs.CountLaws.{inputs_few, tabulate_long}
use Rattle.floorplan.specs.declared.numbers.FloorplanNumbers.{FloorplanNumbers}
use Rattle.floorplan.specs.declared.sides.LeafSides.{LeafSides}
use Rattle.floorplan.specs.FloorplanNumbers.{IsUpTo, floorplan_of}
use Rattle.floorplan.specs.Lowered.{IsLowered}
use Rattle.port_data.specs.Column.{IsColumnRouted}
use Rattle.bank_layout.specs.BankTaps.{AreBankRails}
use Rattle.bank_layout.specs.Near.{IsDrawableWire}
use Rattle.bank_layout.specs.Outputs.{AddsOutputs, IsOutputBelow, output_x}
use Rattle.bank_layout.specs.StatedWires.{AreWiresOfCell}
use Rattle.bank_layout.proofs.FinishLaws.{AreParts, all_drawable}
use Rattle.bank_layout.proofs.GivenLaws.{AreGiven, rails_few, site_of}
use Rattle.bank_layout.proofs.PinLaws.{in_cell, inside_leaf}
use Rattle.bank_layout.proofs.RailListLaws.{IsTapSite}
use Rattle.bank_layout.proofs.StatedLaws.{all_stated}
use Rattle.bank_layout.proofs.StatedTapLaws.{are_rail_lists}
use Rattle.channel_answers.specs.Answers.{RailsHaveShapes}
use Rattle.channel_answers.proofs.ListedLaws.{Listed, listed_as, listed_below, listed_items, listed_one, listed_or, listed_where, times, times_is}
use Rattle.channel_answers.proofs.ShapeLaws.{listed_box, shapes_in_order}
use Rattle.macro_answers.proofs.TapLaws.{pin_there, taps_few, taps_there}

-- Lists that grow

-- the list, with at most so many more
record Grown (old : List Shape) (most : ℕ) (P : Shape → Type 0) : Type 0 where
  new : List Shape
  adds : Adds old new P
  few : length new ≤ length old + most

grown : (old : List Shape) (most : ℕ) (P : Shape → Type 0) → Listed most P → Grown old most P
grown old most P a = record {
  new = old ++ a.list;
  adds = record { added = a.list; is = refl; only = λ s h. (a.has s).0 h; each = λ s p. (a.has s).1 p };
  few = let long = length-append old a.list in let few = a.few in omega (arith, long, few);
}

-- Shapes that are moved

less_shift : (a b d : ℤ) → a <ℤ b → (a +ℤ d) <ℤ (b +ℤ d)
less_shift a b d lt = omega (arith, ints, lt)

same_shifted : (dx dy : ℤ) (from s t : Shape) → IsShifted dx dy from s → IsShifted dx dy from t → s ≡ t
same_shifted dx dy from s t a b =
    let layer = a.layer ∙ sym b.layer in
    let rect = same_rect s.rect t.rect (a.x1 ∙ sym b.x1) (a.y1 ∙ sym b.y1) (a.x2 ∙ sym b.x2) (a.y2 ∙ sym b.y2) in
    λ i. record { layer = layer i; rect = rect i }

listed_shifted : (dx dy : ℤ) (from : Shape) → Listed 1 (IsShifted dx dy from)
listed_shifted dx dy from =
    let r = from.rect in
    let s : Shape = record {
      layer = from.layer;
      rect = record { x1 = r.x1 +ℤ dx; y1 = r.y1 +ℤ dy; x2 = r.x2 +ℤ dx; y2 = r.y2 +ℤ dy; wide = less_shift r.x1 r.x2 dx r.wide; tall = less_shift r.y1 r.y2 dy r.tall };
    } in
    let is : IsShifted dx dy from s = record { layer = refl; x1 = refl; y1 = refl; x2 = refl; y2 = refl } in
    listed_one (IsShifted dx dy from) s is (λ t other. same_shifted dx dy from t s other is)

listed_moved : (dx : ℤ) (shapes : List Shape)
    → Listed (times (length shapes) 1) (SomeGives (λ (from to : Shape). IsShifted dx (pos 0) from to) shapes)
listed_moved dx shapes =
    listed_as (times (length shapes) 1) (λ s. (from : Shape) × Contains shapes from × IsShifted dx (pos 0) from s) (SomeGives (λ (from to : Shape). IsShifted dx (pos 0) from to) shapes)
    (λ s h. gives_some (λ (from to : Shape). IsShifted dx (pos 0) from to) shapes s h.0 h.1 h.2) (λ s g. giver (λ (from to : Shape). IsShifted dx (pos 0) from to) shapes s g)
    (listed_items 1 shapes (λ from s. IsShifted dx (pos 0) from s) (λ from h. listed_shifted dx (pos 0) from))

listed_lowered : (by : ℤ) (most : ℕ) (P : Shape → Type 0) → (a : Listed most P) → Listed (times (length a.list) 1) (IsLowered by P)
listed_lowered by most P a =
    listed_as (times (length a.list) 1) (λ s. (inner : Shape) × Contains a.list inner × IsShifted (pos 0) (pos 0 -ℤ by) inner s) (IsLowered by P)
    (λ s h. record { inner = h.0; is = (a.has h.0).0 h.1; shifted = h.2 }) (λ s l. (l.inner, (a.has l.inner).1 l.is, l.shifted))
    (listed_items 1 a.list (λ inner s. IsShifted (pos 0) (pos 0 -ℤ by) inner s) (λ inner h. listed_shifted (pos 0) (pos 0 -ℤ by) inner))

-- Outputs and joiners

pub decide_written : (plan : Organization) → IsWritten plan ⊎ (IsWritten plan → ⊥)
decide_written plan = elim (cases_lt 0 plan.write_size) [ inl some ↦ inl some | inr none ↦ inr (λ some. omega (arith, some, none)) ]

listed_outputs : (wire : Wire) (x : ℤ) (words width : ℕ) (top : ℤ) (count : ℕ) → Listed (times count 1) (IsOutputBelow wire x words width top count)
listed_outputs wire x words width top count =
    listed_below count 1 (λ bit s. IsBox (slice_index wire.metals 3) (output_x x words width bit) (pos 0) (output_x x words width bit +ℤ wire.width) top s) (λ bit lt. listed_box _ _ _ _ _)

listed_joiners : (plan : Organization) (kit : LayoutKit) (wire : Wire) (f : Floorplan)
    → Listed (1 + 1) (λ (s : Shape). IsWriteJoiner plan kit wire f s ⊎ IsCornerJoiner plan kit wire f s)
listed_joiners plan kit wire f =
    listed_or 1 1 (IsWriteJoiner plan kit wire f) (IsCornerJoiner plan kit wire f)
    (listed_where 1 (IsWritten plan) (IsBox (slice_index wire.metals 0) (columns_x plan kit f) (f.sense_y -ℤ wire.width) (columns_end plan kit f) f.sense_y) (decide_written plan) (λ w. listed_box _ _ _ _ _))
    (listed_box (slice_index wire.metals 0) f.row_x (f.array_y -ℤ wire.width) (columns_end plan kit f) f.array_y)

-- All of a bank's wires

-- the wires of a bank, in order
pub record HasBankWires (kit : Kit) (plan : Organization) (wire : Wire) (column : Routed) (n : FloorplanNumbers) : Type 0 where
  pub list : List Shape
  pub few : length list ≤ 36028797018963968
  pub rises : IsStrictlySortedBy shape_order list
  pub drawable : (s : Shape) → Contains list s → IsDrawableWire wire s
  pub stated : AreWiresOfCell plan (layout_kit kit) wire column.tracks (floorplan_of n) list

record HasOutputs (kit : Kit) (plan : Organization) (wire : Wire) (f : Floorplan) (old : List Shape) : Type 0 where
  new : List Shape
  are : AddsOutputs kit.leaves plan (layout_kit kit) wire f old new
  few : length new ≤ length old + inputs_of plan

outputs_there : (kit : Kit) (plan : Organization) (wire : Wire) (f : Floorplan) → IsKit kit → (old : List Shape) → HasOutputs kit plan wire f old
outputs_there kit plan wire f is old =
    let pin = pin_there kit is Sense 2 (omega arith) in
    let r = pin.1 in
    let more = grown old (times (inputs_of plan) 1) _ (listed_outputs wire (columns_x plan (layout_kit kit) f +ℤ pin.0.rect.x1) (words_per_row plan) (bit_width (layout_kit kit)) (f.sense_y -ℤ f.write_y) (inputs_of plan)) in
    let few = more.few in
    let count = times_is (inputs_of plan) 1 in
    record {
      new = more.new;
      are = record { pin = pin.0; is = r; inside = in_cell r.leaf pin.0.rect (inside_leaf kit Sense r.leaf 2 pin.0 is r.there r.at); adds = more.adds };
      few = omega (arith, few, count);
    }

record HasRails (kit : Kit) (plan : Organization) (wire : Wire) (f : Floorplan) (track : List ℕ) : Type 0 where
  shapes : List Shape
  are : AreBankRails kit.leaves plan (layout_kit kit) wire f track shapes
  few : length shapes ≤ 4096

rails_there : RailsHaveShapes → (kit : Kit) (plan : Organization) (wire : Wire) (f : Floorplan) (track : List ℕ) → IsKit kit → IsBuildable plan
    → rail_count plan ≤ 64 → HasRails kit plan wire f track
rails_there drawn kit plan wire f track is built rails =
    let taps = taps_there kit plan wire f track is in
    let found = drawn (pos 0) (tabulate (rail_count plan) (rail_x wire)) taps.0 wire in
    let few = found.few in
    let least = taps_few kit plan wire f track taps.0 built taps.1 in
    let long = tabulate_long (rail_count plan) (rail_x wire) in
    record { shapes = found.shapes; are = record { taps = taps.0; are = taps.1; drawn = found.are }; few = omega (arith, few, least, long, rails) }

columns_up : (kit : Kit) (plan : Plan) (sides : LeafSides) (n : FloorplanNumbers) (wire : Wire) (routed : Routed)
    → AreGiven kit plan sides n wire routed → IsUpTo 16777216 (columns_x (organization plan) (layout_kit kit) (floorplan_of n))
columns_up kit plan sides n wire routed g =
    let low = g.near.row_x.above in
    let high = g.near.row_x.below in
    let gate = g.sides_are.gate_width.to in
    let drive = g.sides_are.driver_width.to in
    let gate_is = g.sides_of.gate_width in
    let drive_is = g.sides_of.driver_width in
    record { above = omega (arith, ints, low); below = omega (arith, ints, high, gate, drive, gate_is, drive_is) }

pub bank_wires_there : RailsHaveShapes → (kit : Kit) (plan : Plan) (sides : LeafSides) (n : FloorplanNumbers) (wire : Wire) (column : Routed)
    → AreGiven kit plan sides n wire column → IsColumnRouted (organization plan) (layout_kit kit) wire (floorplan_of n) column
    → length column.shapes ≤ 18014398509481984 → HasBankWires kit (organization plan) wire column n
bank_wires_there drawn kit plan sides n wire column g routed short =
    let p = organization plan in
    let lk = layout_kit kit in
    let f = floorplan_of n in
    let by = columns_x p lk f in
    let rails = rails_there drawn kit p wire f column.track g.is g.plan_is.plan (rails_few plan g.plan_is) in
    let moved = grown rails.shapes (times (length column.shapes) 1) _ (listed_moved by column.shapes) in
    let outputs = outputs_there kit p wire f g.is moved.new in
    let joiners = listed_joiners p lk wire f in
    let all = grown outputs.new (times (length joiners.list) 1) _ (listed_lowered n.write_y (1 + 1) _ joiners) in
    let parts : AreParts kit plan n wire column by column.shapes rails.shapes moved.new outputs.new all.new =
    record { drawn = rails.are; by_near = columns_up kit plan sides n wire column g; channel_is = refl; moved_are = moved.adds; outputs_are = outputs.are; joiners = all.adds } in
    let site : IsTapSite kit p wire f column = record { site = site_of kit plan sides n wire column g; wired = g.wired; column = routed } in
    let lists = are_rail_lists kit p wire f column rails.are.taps site rails.are.are in
    let stated = all_stated kit plan sides n wire column g by column.shapes rails.shapes moved.new outputs.new all.new parts refl routed lists in
    let sorted = shapes_in_order (length all.new) (Contains all.new) (record { list = all.new; few = omega arith; has = λ s. (λ h. h, λ h. h) }) in
    let k0 = sorted.few in
    let k1 = all.few in
    let k2 = times_is (length joiners.list) 1 in
    let k3 = joiners.few in
    let k4 = outputs.few in
    let k5 = inputs_few p g.plan_is.plan in
    let k6 = moved.few in
    let k7 = times_is (length column.shapes) 1 in
    let k8 = rails.few in
    record {
      list = sorted.list;
      few = omega (arith, k0, k1, k2, k3, k4, k5, k6, k7, k8, short);
      rises = sorted.rises;
      drawable = λ s h. all_drawable kit plan sides n wire column g by column.shapes rails.shapes moved.new outputs.new all.new parts s ((sorted.has s).0 h);
      stated = λ main s. (λ h. (stated main s).0 ((sorted.has s).0 h), λ h. (sorted.has s).1 ((stated main s).1 h));
    }
