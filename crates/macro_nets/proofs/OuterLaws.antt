-- The hubs of nets outside of the array can be given: the supplies' trunks, and the trunk of each net of the main channel.
use Rattle.std.proofs.Common.{◌≡◌, ◌⊎◌, inl, inr, ℕ, ◌<◌, ◌≤◌, ℤ, pos, ◌<ℤ◌, ◌≤ℤ◌, ◌+ℤ◌, ◌-ℤ◌, map, Option, Some, None, refl, sym, subst, arith}
use Rattle.std.specs.Prelude.{slice_get, slice_index}
use Rattle.std.proofs.lemmas.Bool.{cases_lt}
use Rattle.std.proofs.lemmas.Int.{ints}
use Rattle.or_geom.specs.declared.shape.Shape.{Shape}
use Rattle.tech_rules.specs.declared.tech.Tech.{Tech}
use Rattle.cell_hierarchy.specs.Plain.{FlatLists}
use Rattle.channel_router.specs.Wires.{IsOfNet, track_y}
use Rattle.spice_netlist.specs.Names.{index_of}
use Rattle.sram_netlist.specs.Nets.{Net, Vdd, Gnd, Control, Addr, Din, Dout, Wmask, A, Na, D, M, LineB, Line, WlenB, WlenAt, SenB, SenAt, WenB, WenAt, Zb, Wl, Bl, Br, Lo, Ro}
use Rattle.sram_netlist.specs.Names.{net_name}
use Rattle.macro_layout.specs.Floorplan.{upper_y}
use Rattle.macro_layout.specs.Pins.{main_nets}
use Rattle.macro_layout.specs.Wires.{trunk_x, ground_x, IsSupplyTrunk}
use Rattle.main_channel.proofs.LookLaws.{IsNumbering, numbering_is}
use Rattle.main_channel.proofs.NetLaws.{not_vdd, not_gnd}
use Rattle.joined_nets.proofs.WireNetLaws.{item_there, place_below}
use Rattle.kit_nets.specs.OuterHubs.{AreOuterHubs}
use Rattle.kit_nets.specs.StatedParts.{Source}
use Rattle.kit_nets.proofs.ChannelDrawnLaws.{box_there}
use Rattle.supply_nets.specs.LaidMacro.{IsLaidMacro}
use Rattle.supply_nets.proofs.LevelLaws.{precharge_power_level}

module _ (tech : Tech) (s : Source) (flat : FlatLists) (k : IsLaidMacro tech s flat) where
  longer : (a w : ℤ) → pos 1 ≤ℤ w → a <ℤ (a +ℤ w)
  longer a w some = omega (arith, ints, some)

  -- The supplies' trunks

  some_height : pos 0 <ℤ upper_y s.kit s.floorplan
  some_height = by (upper_y s.kit s.floorplan) s.wire.width (precharge_power_level s k.sizes k.floor k.inside).low k.sizes.width.from where
    by : (upper w : ℤ) → pos 0 ≤ℤ (upper -ℤ w) → pos 1 ≤ℤ w → pos 0 <ℤ upper
    by upper w a b = omega (arith, ints, a, b)

  supply_trunk : (x : ℤ) → (u : Shape) × IsSupplyTrunk s.kit s.wire s.floorplan x u
  supply_trunk x = box_there (slice_index s.wire.metals 1) x (pos 0) (x +ℤ s.wire.width) (upper_y s.kit s.floorplan) (longer x s.wire.width k.sizes.width.from) some_height

  power_trunk : (u : Shape) × IsSupplyTrunk s.kit s.wire s.floorplan (trunk_x s.plan s.kit s.wire s.floorplan) u
  power_trunk = supply_trunk (trunk_x s.plan s.kit s.wire s.floorplan)

  ground_trunk : (u : Shape) × IsSupplyTrunk s.kit s.wire s.floorplan (ground_x s.plan s.kit s.wire s.floorplan) u
  ground_trunk = supply_trunk (ground_x s.plan s.kit s.wire s.floorplan)

  -- The trunk of a net of the main channel

  main_trunk : (number : ℕ) → number < k.main.channel.nets → (u : Shape) × IsOfNet k.main.channel s.wire k.main.intervals k.main.track s.tracks.main number u
  main_trunk number lt =
      let each = k.main.routed.nets.each in
      let long = k.main.routed.lowest.each in
      let interval = item_there k.main.intervals number (omega (arith, lt, each)) in
      let t = item_there k.main.track number (omega (arith, lt, each, long)) in
      let is = k.main.routed.nets.of_net number interval.0 interval.1 in
      let y = track_y k.main.channel.low s.wire t.0 in
      let box = box_there (slice_index s.wire.metals 2) interval.0.left y (interval.0.right +ℤ s.wire.width) (y +ℤ s.wire.width) (forward interval.0.left interval.0.right s.wire.width (is.greatest interval.0.left is.begins) k.sizes.width.from) (longer y s.wire.width k.sizes.width.from) in
      (box.0, record { interval = interval.0; t = t.0; has = record { there = interval.1; on = t.1 }; wires = inl box.1 })
    where
      forward : (left right w : ℤ) → left ≤ℤ right → pos 1 ≤ℤ w → left <ℤ (right +ℤ w)
      forward left right w a b = omega (arith, ints, a, b)

  abbrev trunk_if : (number : ℕ) → (number < k.main.channel.nets) ⊎ (k.main.channel.nets ≤ number) → Shape
  trunk_if number (inl lt) = (main_trunk number lt).0
  trunk_if number (inr ge) = power_trunk.0

  abbrev trunk_at : Option ℕ → Shape
  trunk_at None = power_trunk.0
  trunk_at (Some number) = trunk_if number (cases_lt number k.main.channel.nets)

  -- the net with this name, among those of the channel
  abbrev number_of : Net → Option ℕ
  number_of net = index_of (map (net_name s.plan) (main_nets s.plan)) (net_name s.plan net)

  -- The hub of each net.
  abbrev outer_hub : Net → Shape
  outer_hub Vdd = power_trunk.0
  outer_hub Gnd = ground_trunk.0
  outer_hub net = trunk_at (number_of net)

  abbrev IsTrunkOf : ℕ → Shape → Type 0
  IsTrunkOf number u = IsOfNet k.main.channel s.wire k.main.intervals k.main.track s.tracks.main number u

  trunk_if_is : (number : ℕ) (r : (number < k.main.channel.nets) ⊎ (k.main.channel.nets ≤ number)) → number < k.main.channel.nets → IsTrunkOf number (trunk_if number r)
  trunk_if_is number (inl lt) within = (main_trunk number lt).1
  trunk_if_is number (inr ge) within = absurd (omega (arith, ge, within))

  trunk_at_is : (number : ℕ) (found : Option ℕ) → found ≡ Some number → number < k.main.channel.nets → IsTrunkOf number (trunk_at found)
  trunk_at_is number found e within = subst (λ (o : Option ℕ). IsTrunkOf number (trunk_at o)) (sym e) (trunk_if_is number (cases_lt number k.main.channel.nets) within)

  outer_is : (number : ℕ) (net : Net) → slice_get (main_nets s.plan) number ≡ Some net → IsTrunkOf number (outer_hub net)
  outer_is number net named = by net named (trunk_at_is number (number_of net) (numbering.there net number named) within) where
    numbering : IsNumbering s.plan (index_of (map (net_name s.plan) (main_nets s.plan)))
    numbering = numbering_is s.plan k.build (map (net_name s.plan) (main_nets s.plan)) (index_of (map (net_name s.plan) (main_nets s.plan))) refl (λ name. refl)

    within : number < k.main.channel.nets
    within = let lt = place_below (main_nets s.plan) number net named in let count = k.main.routed.meant.nets in omega (arith, lt, count)

    by : (n : Net) → slice_get (main_nets s.plan) number ≡ Some n → IsTrunkOf number (trunk_at (number_of n)) → IsTrunkOf number (outer_hub n)
    by Vdd e is = absurd (not_vdd s.plan number e)
    by Gnd e is = absurd (not_gnd s.plan number e)
    by (Control x) e is = is
    by (Addr i) e is = is
    by (Din i) e is = is
    by (Dout i) e is = is
    by (Wmask m) e is = is
    by (A i) e is = is
    by (Na i) e is = is
    by (D i) e is = is
    by (M m) e is = is
    by (LineB o b j) e is = is
    by (Line o b j) e is = is
    by (WlenB b) e is = is
    by (WlenAt b) e is = is
    by (SenB b) e is = is
    by (SenAt b) e is = is
    by (WenB b m) e is = is
    by (WenAt b m) e is = is
    by (Zb b r) e is = is
    by (Wl b r) e is = is
    by (Bl b c) e is = is
    by (Br b c) e is = is
    by (Lo b i) e is = is
    by (Ro b i) e is = is

  -- They are such hubs.
  pub outer_hubs : (outer : Net → Shape) × AreOuterHubs s k.main outer
  outer_hubs = (outer_hub, record { power = power_trunk.1; ground = ground_trunk.1; main = outer_is })
