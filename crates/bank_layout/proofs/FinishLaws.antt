-- A bank's rails can be drawn, and all of its wires fit 32 bits.
use Rattle.std.proofs.Common.{◌≡◌, ◌⊎◌, inl, inr, ℕ, ◌*◌, ◌<◌, ◌≤◌, ℤ, pos, ◌+ℤ◌, ◌-ℤ◌, ◌≤ℤ◌, List, length, get_or, sym, subst, le_trans, arith}
use Rattle.std.specs.Prelude.{Contains}
use Rattle.std.proofs.lemmas.Int.{ints}
use Rattle.std.proofs.lemmas.Nat.{mul-le}
use Rattle.std.proofs.lemmas.List.Elements.{Contains-append_cases}
use Rattle.or_geom.specs.declared.shape.Shape.{Shape}
use Rattle.or_geom.specs.Distance.{IsNear}
use Rattle.or_geom.specs.Adds.{Adds}
use Rattle.or_geom.specs.Gathering.{SomeGives}
use Rattle.or_geom.proofs.GatheringLaws.{giver}
use Rattle.wire_drawing.specs.declared.route.Tap.{Tap}
use Rattle.tech_rules.specs.declared.tech.Wire.{Wire}
use Rattle.tech_rules.specs.Facts.{IsWire}
use Rattle.channel_router.specs.declared.channel.Routed.{Routed}
use Rattle.rail_bus.specs.Rails.{AreNearTaps, AreOfRails, EndBeyondRails, AreTapped}
use Rattle.sram_netlist.specs.InstanceList.{tabulate}
use Rattle.sram_netlist.specs.Organization.{inputs_of, columns_of, words_per_row}
use Rattle.sram_netlist.proofs.Bounds.{written_most}
use Rattle.sram_plan.specs.PlanNumbers.{organization}
use Rattle.sram_plan.specs.declared.numbers.Plan.{Plan}
use Rattle.leaf_tables.specs.declared.kit.Kit.{Kit}
use Rattle.macro_layout.specs.Places.{columns_x, bit_width}
use Rattle.macro_layout.specs.Floorplan.{rail_count, rail_x}
use Rattle.macro_layout.specs.Stated.{IsShifted}
use Rattle.macro_layout.specs.Wires.{IsWriteJoiner, IsCornerJoiner}
use Rattle.floorplan.specs.LayoutOfKit.{layout_kit}
use Rattle.floorplan.specs.declared.sides.LeafSides.{LeafSides}
use Rattle.floorplan.specs.declared.numbers.FloorplanNumbers.{FloorplanNumbers}
use Rattle.floorplan.specs.FloorplanNumbers.{floorplan_of, IsUpTo}
use Rattle.floorplan.specs.Lowered.{IsLowered}
use Rattle.bank_layout.specs.Near.{IsDrawableWire}
use Rattle.bank_layout.specs.BankTaps.{AreBankTaps, AreBankRails}
use Rattle.bank_layout.specs.Outputs.{IsOutputBelow, AddsOutputs}
use Rattle.bank_layout.proofs.SiteLaws.{bank_good, bank_tapped}
use Rattle.bank_layout.proofs.DrawableLaws.{AreGoodTaps, xs_near, taps_near, of_rails, end_beyond, all_tapped, rails_drawable, moved_drawable, output_drawable, joiner_drawable}
use Rattle.bank_layout.proofs.GivenLaws.{AreGiven, site_of, wire_of_kit, few_wide}

-- what drawing rails asks of their places and taps
pub record AreFit (wire : Wire) (xs : List ℤ) (taps : List Tap) : Type 0 where
  pub near_xs : (k : ℕ) (d : ℤ) → k < length xs → IsNear (get_or xs k d)
  pub near_taps : AreNearTaps taps
  pub rails_are : AreOfRails xs taps
  pub ends : EndBeyondRails xs taps wire
  pub tapped : AreTapped (pos 0) xs taps

pub fit_of : (kit : Kit) (plan : Plan) (sides : LeafSides) (n : FloorplanNumbers) (wire : Wire) (routed : Routed) → AreGiven kit plan sides n wire routed → (xs : List ℤ) (ts taps : List Tap) (track : List ℕ) → xs ≡ tabulate (rail_count (organization plan)) (rail_x wire) → ts ≡ taps
    → track ≡ routed.track → AreBankTaps kit.leaves (organization plan) (layout_kit kit) wire (floorplan_of n) track taps → AreFit wire xs ts
fit_of kit plan sides n wire routed g xs ts taps track xs_are taps_are same are =
    let site = site_of kit plan sides n wire routed g in
    let org = organization plan in
    let fl = floorplan_of n in
    let on : AreBankTaps kit.leaves org (layout_kit kit) wire fl routed.track taps = subst (λ (t : List ℕ). AreBankTaps kit.leaves org (layout_kit kit) wire fl t taps) same are in
    let good : AreGoodTaps wire (rail_count org) taps = bank_good kit org wire fl routed.track taps site on in
    let listed = bank_tapped kit org wire fl routed.track taps site on in
    subst (λ (zs : List ℤ). AreFit wire zs ts) (sym xs_are) (subst (λ (us : List Tap). AreFit wire (tabulate (rail_count org) (rail_x wire)) us) (sym taps_are) (record {
      near_xs = xs_near wire (rail_count org) site.sizes site.few;
      near_taps = taps_near wire (rail_count org) taps site.sizes good;
      rails_are = of_rails wire (rail_count org) taps good;
      ends = end_beyond wire (rail_count org) taps good;
      tapped = all_tapped wire (rail_count org) taps good listed;
    }))

-- the same outputs, where their places are computed otherwise
pub outputs_as : (wire : Wire) (x u : ℤ) (words w v : ℕ) (top t : ℤ) (count : ℕ) (old new : List Shape) → Adds old new (IsOutputBelow wire x words w top count) → x ≡ u → w ≡ v → top ≡ t → Adds old new (IsOutputBelow wire u words v t count)
outputs_as wire x u words w v top t count old new adds left wide high =
    subst (λ (z : ℤ). Adds old new (IsOutputBelow wire u words v z count)) high
    (subst (λ (k : ℕ). Adds old new (IsOutputBelow wire u words k top count)) wide
    (subst (λ (z : ℤ). Adds old new (IsOutputBelow wire z words w top count)) left adds))

-- what a list that grew has
pub grown_cases : (old new : List Shape) (P : Shape → Type 0) → Adds old new P → (s : Shape) → Contains new s → Contains old s ⊎ P s
grown_cases old new P adds s h = elim (Contains-append_cases old adds.added s (subst (λ (l : List Shape). Contains l s) adds.is h)) [ inl before ↦ inl before | inr later ↦ inr (adds.only s later) ]

-- the wires of a bank, part by part
pub record AreParts (kit : Kit) (plan : Plan) (n : FloorplanNumbers) (wire : Wire) (routed : Routed) (by : ℤ) (channel rails moved outputs all : List Shape) : Type 0 where
  pub drawn : AreBankRails kit.leaves (organization plan) (layout_kit kit) wire (floorplan_of n) routed.track rails
  pub by_near : IsUpTo 16777216 by
  pub channel_is : channel ≡ routed.shapes
  pub moved_are : Adds rails moved (SomeGives (λ (from to : Shape). IsShifted by (pos 0) from to) channel)
  pub outputs_are : AddsOutputs kit.leaves (organization plan) (layout_kit kit) wire (floorplan_of n) moved outputs
  pub joiners : Adds outputs all (IsLowered n.write_y (λ (s : Shape). IsWriteJoiner (organization plan) (layout_kit kit) wire (floorplan_of n) s ⊎ IsCornerJoiner (organization plan) (layout_kit kit) wire (floorplan_of n) s))

pub all_drawable : (kit : Kit) (plan : Plan) (sides : LeafSides) (n : FloorplanNumbers) (wire : Wire) (routed : Routed) → AreGiven kit plan sides n wire routed → (by : ℤ) (channel rails moved outputs all : List Shape) → AreParts kit plan n wire routed by channel rails moved outputs all
    → (s : Shape) → Contains all s → IsDrawableWire wire s
all_drawable kit plan sides n wire routed g by channel rails moved outputs all parts s h = elim (grown_cases outputs all _ parts.joiners s h) [
  | inr joiner ↦ elim joiner.is [
    | inl write ↦ write_drawable (record { inner = joiner.inner; is = write; shifted = joiner.shifted })
    | inr corner ↦ corner_drawable (record { inner = joiner.inner; is = corner; shifted = joiner.shifted })
  ]
  | inl before ↦ elim (grown_cases moved outputs _ parts.outputs_are.adds s before) [
    | inr output ↦ out_drawable output
    | inl earlier ↦ elim (grown_cases rails moved _ parts.moved_are s earlier) [
      | inr some ↦ (let from = giver (λ (a b : Shape). IsShifted by (pos 0) a b) channel s some in
          moved_drawable wire by from.0 s parts.by_near (g.given.near.shapes from.0 (subst (λ (l : List Shape). Contains l from.0) parts.channel_is from.1)) from.2)
      | inl rail ↦ rails_drawable kit.tech.layers wire (rail_count (organization plan)) parts.drawn.taps rails (wire_of_kit kit wire g.is g.wired) (site_of kit plan sides n wire routed g).few
          (bank_good kit (organization plan) wire (floorplan_of n) routed.track parts.drawn.taps (site_of kit plan sides n wire routed g) parts.drawn.are) parts.drawn.drawn s rail
    ]
  ]
] where
  is_wire : IsWire kit.tech.layers wire
  is_wire = wire_of_kit kit wire g.is g.wired

  columns_far : columns_of (organization plan) * bit_width (layout_kit kit) ≤ 16777216
  columns_far = let bit = g.sides_of.bit_width in let few = g.sides_are.bit_width.to in few_wide (columns_of (organization plan)) (columns_of (organization plan)) (bit_width (layout_kit kit)) (omega arith) g.plan_is.plan.columns (omega (arith, bit, few))

  columns_near : (pos 0 ≤ℤ columns_x (organization plan) (layout_kit kit) (floorplan_of n)) × (columns_x (organization plan) (layout_kit kit) (floorplan_of n) ≤ℤ pos 8519680)
  columns_near =
      let low = g.near.row_x.above in
      let high = g.near.row_x.below in
      let gate = g.sides_of.gate_width in
      let gate_few = g.sides_are.gate_width.to in
      let drive = g.sides_of.driver_width in
      let drive_few = g.sides_are.driver_width.to in
      (omega (arith, ints, low), omega (arith, ints, high, gate, gate_few, drive, drive_few))

  write_drawable : IsLowered n.write_y (IsWriteJoiner (organization plan) (layout_kit kit) wire (floorplan_of n)) s → IsDrawableWire wire s
  write_drawable l =
      let low = columns_near.0 in
      let high = columns_near.1 in
      let far = columns_far in
      let above = (site_of kit plan sides n wire routed g).sense in
      let near = (site_of kit plan sides n wire routed g).sense_near in
      let to = is_wire.sizes.width.to in
      let from = is_wire.sizes.width.from in
      joiner_drawable kit.tech.layers wire n.write_y _ _ _ _ s is_wire low (omega (arith, ints, high)) (omega (arith, ints, above, to)) (omega (arith, ints, near, from)) (omega (arith, ints, low)) (omega (arith, ints, high, far)) above near (record { inner = l.inner; is = l.is.1; shifted = l.shifted })

  corner_drawable : IsLowered n.write_y (IsCornerJoiner (organization plan) (layout_kit kit) wire (floorplan_of n)) s → IsDrawableWire wire s
  corner_drawable l =
      let low = columns_near.0 in
      let high = columns_near.1 in
      let far = columns_far in
      let above = (site_of kit plan sides n wire routed g).array in
      let near = (site_of kit plan sides n wire routed g).array_near in
      let left = g.near.row_x.above in
      let right = g.near.row_x.below in
      let to = is_wire.sizes.width.to in
      let from = is_wire.sizes.width.from in
      joiner_drawable kit.tech.layers wire n.write_y _ _ _ _ s is_wire left (omega (arith, ints, right)) (omega (arith, ints, above, to)) (omega (arith, ints, near, from)) (omega (arith, ints, low)) (omega (arith, ints, high, far)) above near l

  out_drawable : IsOutputBelow wire (columns_x (organization plan) (layout_kit kit) (floorplan_of n) +ℤ parts.outputs_are.pin.rect.x1) (words_per_row (organization plan)) (bit_width (layout_kit kit)) (n.sense_y -ℤ n.write_y) (inputs_of (organization plan)) s → IsDrawableWire wire s
  out_drawable o =
      let low = columns_near.0 in
      let high = columns_near.1 in
      let inside = parts.outputs_are.inside in
      let left = inside.left in
      let right = inside.right in
      let wide = parts.outputs_are.pin.rect.wide in
      let bit = g.sides_of.bit_width in
      let few = g.sides_are.bit_width.to in
      let most : inputs_of (organization plan) * words_per_row (organization plan) ≤ columns_of (organization plan) = mul-le _ _ _ _ (written_most plan.write_size plan.word_size) (omega arith) in
      output_drawable kit.tech.layers wire _ (words_per_row (organization plan)) (bit_width (layout_kit kit)) _ (inputs_of (organization plan)) s is_wire (le_trans most g.plan_is.plan.columns) (omega (arith, bit, few)) (omega (arith, ints, low, left)) (omega (arith, ints, high, right, wide))
      (site_of kit plan sides n wire routed g).sense (site_of kit plan sides n wire routed g).sense_near o
