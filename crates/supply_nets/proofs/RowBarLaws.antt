-- The rails of the array's rows at their bars: an even row stands upright, an odd one mirrored, so that rails of neighbouring rows coincide.
use Rattle.std.proofs.Common.{◌≡◌, ◌⊎◌, inl, inr, ℕ, zero, suc, ◌+◌, ◌*◌, ◌<◌, ℤ, pos, ◌+ℤ◌, ◌-ℤ◌, Bool, true, false, cond, List, [], ◌∷◌, length, refl, sym, ap, ◌∙◌, arith}
use Rattle.std.specs.Prelude.{◌%◌, ◌==◌}
use Rattle.std.specs.List.{AllByRecursion}
use Rattle.std.proofs.lemmas.Int.{ints}
use Rattle.std.proofs.lemmas.Bool.{cases_lt}
use Rattle.or_geom.specs.declared.shape.Shape.{Shape}
use Rattle.or_geom.specs.declared.place.Place.{Place}
use Rattle.tech_rules.specs.declared.tech.Tech.{Tech}
use Rattle.cell_hierarchy.specs.Plain.{FlatLists}
use Rattle.sram_netlist.specs.Organization.{Organization, IsBuildable, IsGroupSize, power_of_two, total_bits, bank_rows}
use Rattle.sram_netlist.specs.Instances.{LeafInstance}
use Rattle.sram_netlist.specs.Netlist.{role}
use Rattle.sram_netlist.specs.Membership.{HasLeafInstance}
use Rattle.macro_layout.specs.Places.{IsPlaceOf, upright, mirrored_at, in_row_at, bit_height}
use Rattle.macro_layout.specs.Wires.{trunk_x, ground_x, row_y, IsSupplyTrunk}
use Rattle.kit_nets.specs.StatedParts.{Source}
use Rattle.kit_nets.specs.Hubs.{IsPortJoined}
use Rattle.kit_nets.proofs.ArrayNetLaws.{pin_at}
use Rattle.kit_nets.proofs.PinJoinLaws.{standing}
use Rattle.supply_nets.specs.Rails.{power_port, ground_port, IsPowerAbove}
use Rattle.supply_nets.specs.LaidMacro.{IsLaidMacro}
use Rattle.supply_nets.proofs.LevelLaws.{row_level, precharge_ground_level}
use Rattle.supply_nets.proofs.SpanLaws.{IsSpan}
use Rattle.supply_nets.proofs.RailShapeLaws.{lower_upright, upper_upright, lower_mirrored, upper_mirrored}
use Rattle.supply_nets.proofs.RailDemandLaws.{upper_power, lower_ground}
use Rattle.supply_nets.proofs.BarLaws.{along, below, power_at, ground_at}

-- Even and odd rows

abbrev HasParity : ℕ → Type 0
HasParity n = ((n ≡ 0) × ((n == 0) ≡ true)) ⊎ ((n ≡ 1) × ((n == 0) ≡ false))

below_two : (n : ℕ) → n < 2 → HasParity n
below_two zero lt = inl (refl, refl)
below_two (suc zero) lt = inr (refl, refl)
below_two (suc (suc n)) lt = absurd (omega (arith, lt))

parity : (r : ℕ) → HasParity (r % 2)
parity r = below_two (r % 2) (omega arith)

odd_next : (r : ℕ) → r % 2 ≡ 0 → (r + 1) % 2 ≡ 1
odd_next r e = omega (arith, e)

even_next : (r : ℕ) → r % 2 ≡ 1 → (r + 1) % 2 ≡ 0
even_next r e = omega (arith, e)

-- there are as many even rows as odd ones
half_of : (n : ℕ) → 0 < n → (m : ℕ) × (power_of_two n ≡ 2 * m)
half_of zero some = absurd (omega (arith, some))
half_of (suc n) some = (power_of_two n, refl)

some_bits : (groups : List ℕ) → AllByRecursion IsGroupSize groups → (length groups ≡ 2) ⊎ (length groups ≡ 3) → 0 < total_bits groups
some_bits [] all (inl e) = absurd (omega (arith, e))
some_bits [] all (inr e) = absurd (omega (arith, e))
some_bits (g ∷ gs) all sized = by all.0 where
  by : IsGroupSize g → 0 < g + total_bits gs
  by (inl e) = omega (arith, e)
  by (inr e) = omega (arith, e)

row_above : (plan : Organization) → IsBuildable plan → (r : ℕ) → r < bank_rows plan → r % 2 ≡ 0 → r + 1 < bank_rows plan
row_above plan build r lt even = let half = half_of (total_bits plan.groups) (some_bits plan.groups build.sizes build.groups) in by half.0 (bank_rows plan) half.1 lt where
  by : (m n : ℕ) → n ≡ 2 * m → r < n → r + 1 < n
  by m n is less = omega (arith, is, less, even)

module _ (tech : Tech) (s : Source) (flat : FlatLists) (k : IsLaidMacro tech s flat) where
  pub next_row : (r h : ℕ) → h ≡ bit_height s.kit → row_y s.kit s.floorplan r +ℤ pos h ≡ row_y s.kit s.floorplan (r + 1)
  next_row r h e = go s.floorplan.array_y (r * bit_height s.kit) ((r + 1) * bit_height s.kit) (bit_height s.kit) h e (more r (bit_height s.kit)) where
    more : (r b : ℕ) → (r + 1) * b ≡ r * b + b
    more r b = grind arith

    go : (a : ℤ) (here there k h : ℕ) → h ≡ k → there ≡ here + k → (a +ℤ pos here) +ℤ pos h ≡ a +ℤ pos there
    go a here there k h e is = omega (arith, ints, e, is)

  last_row : (r : ℕ) → bank_rows s.plan ≡ r → row_y s.kit s.floorplan r ≡ s.floorplan.precharge_y
  last_row r e = ap (λ (n : ℕ). row_y s.kit s.floorplan n) (sym e) ∙ sym k.floor.precharge_y

  module _ (leaf : LeafInstance) (has : HasLeafInstance s.plan leaf) (place : Place) (stands : IsPlaceOf s.plan s.kit s.floorplan leaf place) (r : ℕ) (x : ℤ) (of_row : r < bank_rows s.plan) (at : place ≡ in_row_at s.kit s.floorplan.array_y r x)
      (span : IsSpan s s.floorplan.row_x x (s.kit.width (role s.plan leaf))) (tall : s.kit.height (role s.plan leaf) ≡ bit_height s.kit) (above : IsPowerAbove (role s.plan leaf)) where
    abbrev y : ℤ
    y = row_y s.kit s.floorplan r

    abbrev next : ℤ
    next = row_y s.kit s.floorplan (r + 1)

    abbrev either : Bool → Place
    either even = cond even (upright x y) (mirrored_at x next)

    step : y +ℤ pos (s.kit.height (role s.plan leaf)) ≡ next
    step = next_row r (s.kit.height (role s.plan leaf)) tall

    as_along : (a b : ℤ) (h : ℕ) (w : ℤ) → a +ℤ pos h ≡ b → (b -ℤ pos h ≡ a) × (b -ℤ (pos h -ℤ w) ≡ a +ℤ w)
    as_along a b h w e = (omega (arith, ints, e), omega (arith, ints, e))

    from_low : (a : ℤ) → a +ℤ pos 0 ≡ a
    from_low a = omega (arith, ints)

    to_high : (a : ℤ) → a -ℤ pos 0 ≡ a
    to_high a = omega (arith, ints)

    -- The supply ports of a cell of a row.
    pub row_power : (hub : Shape) → IsSupplyTrunk s.kit s.wire s.floorplan (trunk_x s.plan s.kit s.wire s.floorplan) hub → IsPortJoined tech.connects s flat (standing tech.connects s flat k.by leaf has place stands) (power_port (role s.plan leaf)) hub
    row_power hub is_hub = elim (parity r) [
      | inl even ↦
          let drawn = upper_power s k.pins (role s.plan leaf) above in
          let port = power_port (role s.plan leaf) in
          let lt = row_above s.plan k.build r of_row even.0 in
          let rail = upper_upright s leaf port x y drawn in
          power_at tech s flat k leaf has place (upright x y) stands port s.floorplan.row_x x next (y +ℤ (pos (s.kit.height (role s.plan leaf)) -ℤ s.wire.width)) (y +ℤ pos (s.kit.height (role s.plan leaf))) hub (at ∙ ap either even.1)
          (inr (inr (inr (inr (inl (r + 1, lt, odd_next r even.0, refl, refl)))))) (row_level s k.sizes k.floor k.inside (r + 1) lt) span (inr drawn) rail
          (below s.wire.width next (y +ℤ (pos (s.kit.height (role s.plan leaf)) -ℤ s.wire.width)) (y +ℤ pos (s.kit.height (role s.plan leaf))) x (s.kit.width (role s.plan leaf)) (pin_at s leaf (upright x y) port 0) rail step) is_hub
      | inr odd ↦
          let drawn = upper_power s k.pins (role s.plan leaf) above in
          let port = power_port (role s.plan leaf) in
          let rail = upper_mirrored s leaf port x next drawn in
          let lies = as_along y next (s.kit.height (role s.plan leaf)) s.wire.width step in
          power_at tech s flat k leaf has place (mirrored_at x next) stands port s.floorplan.row_x x y (next -ℤ pos (s.kit.height (role s.plan leaf))) (next -ℤ (pos (s.kit.height (role s.plan leaf)) -ℤ s.wire.width)) hub (at ∙ ap either odd.1)
          (inr (inr (inr (inr (inl (r, of_row, odd.0, refl, refl)))))) (row_level s k.sizes k.floor k.inside r of_row) span (inr drawn) rail
          (along s.wire.width y (next -ℤ pos (s.kit.height (role s.plan leaf))) (next -ℤ (pos (s.kit.height (role s.plan leaf)) -ℤ s.wire.width)) x (s.kit.width (role s.plan leaf)) (pin_at s leaf (mirrored_at x next) port 0) rail lies.0 lies.1) is_hub
    ]

    pub row_ground : (hub : Shape) → IsSupplyTrunk s.kit s.wire s.floorplan (ground_x s.plan s.kit s.wire s.floorplan) hub → IsPortJoined tech.connects s flat (standing tech.connects s flat k.by leaf has place stands) (ground_port (role s.plan leaf)) hub
    row_ground hub is_hub = elim (parity r) [
      | inl even ↦
          let drawn = lower_ground s k.pins (role s.plan leaf) above in
          let port = ground_port (role s.plan leaf) in
          let rail = lower_upright s leaf port x y drawn in
          ground_at tech s flat k leaf has place (upright x y) stands port s.floorplan.row_x x y (y +ℤ pos 0) (y +ℤ s.wire.width) hub (at ∙ ap either even.1)
          (inr (inr (inl (r, of_row, even.0, refl, refl)))) (row_level s k.sizes k.floor k.inside r of_row) span (inl drawn) rail
          (along s.wire.width y (y +ℤ pos 0) (y +ℤ s.wire.width) x (s.kit.width (role s.plan leaf)) (pin_at s leaf (upright x y) port 0) rail (from_low y) refl) is_hub
      | inr odd ↦ elim (cases_lt (r + 1) (bank_rows s.plan)) [
        | inl lt ↦
            let drawn = lower_ground s k.pins (role s.plan leaf) above in
            let port = ground_port (role s.plan leaf) in
            let rail = lower_mirrored s leaf port x next drawn in
            ground_at tech s flat k leaf has place (mirrored_at x next) stands port s.floorplan.row_x x next (next -ℤ s.wire.width) (next -ℤ pos 0) hub (at ∙ ap either odd.1)
            (inr (inr (inl (r + 1, lt, even_next r odd.0, refl, refl)))) (row_level s k.sizes k.floor k.inside (r + 1) lt) span (inl drawn) rail
            (below s.wire.width next (next -ℤ s.wire.width) (next -ℤ pos 0) x (s.kit.width (role s.plan leaf)) (pin_at s leaf (mirrored_at x next) port 0) rail (to_high next)) is_hub
        | inr ge ↦
            let drawn = lower_ground s k.pins (role s.plan leaf) above in
            let port = ground_port (role s.plan leaf) in
            let rail = lower_mirrored s leaf port x next drawn in
            let last = last_row (r + 1) (omega (arith, ge, of_row)) in
            ground_at tech s flat k leaf has place (mirrored_at x next) stands port s.floorplan.row_x x s.floorplan.precharge_y (next -ℤ s.wire.width) (next -ℤ pos 0) hub (at ∙ ap either odd.1)
            (inr (inr (inr (refl, refl)))) (precharge_ground_level s k.sizes k.floor k.inside) span (inl drawn) rail
            (below s.wire.width s.floorplan.precharge_y (next -ℤ s.wire.width) (next -ℤ pos 0) x (s.kit.width (role s.plan leaf)) (pin_at s leaf (mirrored_at x next) port 0) rail (to_high next ∙ last)) is_hub
      ]
    ]
