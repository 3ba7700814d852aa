-- The wires of the channels, and the taps, rails and outputs of a bank, are joined with the hubs of their nets.
use Rattle.std.proofs.Common.{◌≡◌, inl, inr, ℕ, zero, suc, ◌<◌, ℤ, pos, ◌<ℤ◌, ◌≤ℤ◌, ◌+ℤ◌, ◌*ℤ◌, List, [], ◌∷◌, Contains, Some, refl, sym, ap, subst, ◌∙◌, arith}
use Rattle.std.specs.Prelude.{slice_get, slice_index}
use Rattle.std.proofs.lemmas.Int.{ints, clamps}
use Rattle.or_geom.specs.declared.shape.Shape.{Shape}
use Rattle.or_geom.specs.declared.place.Place.{Place}
use Rattle.tech_rules.specs.declared.tech.Tech.{Tech}
use Rattle.wire_drawing.specs.Drawing.{IsBox}
use Rattle.tech_rules.specs.Net.{AreOnOneNet}
use Rattle.cell_hierarchy.specs.Plain.{FlatLists}
use Rattle.cell_hierarchy.specs.FlatSet.{IsMoved}
use Rattle.channel_router.specs.Channel.{IsPinOf}
use Rattle.sram_netlist.specs.Organization.{Organization, power_of_two, banks_of}
use Rattle.sram_netlist.specs.Nets.{Net, Line}
use Rattle.sram_netlist.specs.Instances.{LeafInstance, SenseAt}
use Rattle.sram_netlist.specs.InstanceList.{tabulate_lists}
use Rattle.sram_netlist.specs.Netlist.{ports}
use Rattle.sram_netlist.specs.Membership.{HasLeafInstance, IsOneOf}
use Rattle.sram_netlist.proofs.InstanceLists.{of_each, of_eachs}
use Rattle.macro_layout.specs.Places.{IsPlaceOf}
use Rattle.macro_layout.specs.Pins.{main_nets, column_nets, choice_nets, slice_nets}
use Rattle.macro_layout.specs.Channels.{IsColumnChannel, IsMainChannel}
use Rattle.macro_layout.specs.Stated.{IsShifted}
use Rattle.macro_layout.specs.Wires.{IsTapAt}
use Rattle.good_nets.specs.Ports.{upright_place}
use Rattle.good_nets.proofs.CellLaws.{has_image}
use Rattle.good_nets.proofs.NetLaws.{nets_on, net_back}
use Rattle.good_wires.proofs.TapLaws.{tap_low}
use Rattle.good_wires.proofs.WideLaws as wide
use Rattle.joined_nets.specs.WireNets.{in_bank, IsChannelWireOf, IsTapWireOf, IsRailWireOf, IsOutputWireOf}
use Rattle.kit_nets.specs.StatedParts.{Source}
use Rattle.kit_nets.specs.OuterHubs.{AreOuterHubs}
use Rattle.kit_nets.proofs.ArrayJoinLaws.{array_hub}
use Rattle.kit_nets.proofs.ArrayNetLaws.{pin_of, pin_at, IsBoundPin, pin_listed}
use Rattle.kit_nets.proofs.ChannelDrawnLaws.{column_wires_joined, main_wires_joined}
use Rattle.kit_nets.proofs.ColumnHubLaws.{sense_meets}
use Rattle.kit_nets.proofs.DataHubLaws.{data_line, data_hub, slice_place, sense_drawn}
use Rattle.kit_nets.proofs.MainHubLaws.{above_main}
use Rattle.kit_nets.proofs.OuterHubLaws.{hub_is_outer}
use Rattle.kit_nets.proofs.RailHubLaws.{tapped}
use Rattle.supply_nets.specs.LaidMacro.{IsLaidMacro}
use Rattle.wire_nets.proofs.NamedLaws.{one_main, one_column, bank_rail}
use Rattle.wired_macros.specs.WiredMacro.{IsWiredMacro}
use Rattle.macro_nets.proofs.MainNumberLaws.{line_number}
use Rattle.macro_nets.proofs.TapLaws.{highest}
use Rattle.macro_nets.proofs.ChoiceLaws.{listed_choice, choice_wire_joined}
use Rattle.macro_nets.proofs.ListSplitLaws.{split_at}
use Rattle.macro_nets.proofs.PortHubLaws.{port_joined}
use Rattle.wired_macros.proofs.RouteLaws.{IsOfRoute, of_route, main_outside}

-- what is at a place of a list is one of it
pub one_at : {X : Type 0} (xs : List X) (i : ℕ) (x : X) → slice_get xs i ≡ Some x → IsOneOf x xs
one_at [] i x h = absurd cc
one_at (y ∷ ys) zero x h = inl cc
one_at (y ∷ ys) (suc i) x h = inr (one_at ys i x h)

-- a column choice, of a memory that has column bits
pub record IsChoiceOf (n : ℕ) (net : Net) : Type 0 where
  pub choice : ℕ
  pub some : 0 < n
  pub few : choice < power_of_two n
  pub is : net ≡ Line 0 n choice

pub choice_of : (n : ℕ) (net : Net) → IsOneOf net (choice_nets n) → IsChoiceOf n net
choice_of zero net is = absurd is
choice_of (suc n) net is = of_each (power_of_two (suc n)) (Line 0 (suc n)) (IsChoiceOf (suc n)) (λ c lt. record { choice = c; some = omega arith; few = lt; is = refl }) net is

-- a line of a bit of the word
pub record IsDataLine (plan : Organization) (net : Net) : Type 0 where
  pub bit : ℕ
  pub port : ℕ
  pub below : bit < plan.word_size
  pub few : port < 2
  pub is : net ≡ data_line plan.col_bits port 0 bit

pub line_of : (plan : Organization) (net : Net) → IsOneOf net (tabulate_lists plan.word_size (slice_nets plan)) → IsDataLine plan net
line_of plan net is = let found = of_eachs plan.word_size (slice_nets plan) net is in by found.0 found.1 found.2 where
  by : (i : ℕ) → i < plan.word_size → IsOneOf net (slice_nets plan i) → IsDataLine plan net
  by i lt (inl e) = record { bit = i; port = 0; below = lt; few = omega arith; is = sym e }
  by i lt (inr (inl e)) = record { bit = i; port = 1; below = lt; few = omega arith; is = sym e }
  by i lt (inr (inr none)) = absurd none

pub line_in : (n b port i : ℕ) → port < 2 → in_bank b (data_line n port 0 i) ≡ data_line n port b i
line_in zero b zero i lt = refl
line_in (suc n) b zero i lt = refl
line_in zero b (suc zero) i lt = refl
line_in (suc n) b (suc zero) i lt = refl
line_in n b (suc (suc port)) i lt = absurd (omega (arith, lt))

pub sense_on : (plan : Organization) (port b i : ℕ) → port < 2 → slice_get (ports plan (SenseAt b i)) port ≡ Some (data_line plan.col_bits port b i)
sense_on plan zero b i lt = refl
sense_on plan (suc zero) b i lt = refl
sense_on plan (suc (suc port)) b i lt = absurd (omega (arith, lt))

pub shifted_is_moved : (dx dy : ℤ) (a b : Shape) → IsShifted dx dy a b → IsMoved (upright_place dx dy) a b
shifted_is_moved dx dy a b s =
    let wide : a.rect.x1 <ℤ a.rect.x2 = a.rect.wide in
    let tall : a.rect.y1 <ℤ a.rect.y2 = a.rect.tall in
    let s1 = s.x1 in
    let s2 = s.x2 in
    let s3 = s.y1 in
    let s4 = s.y2 in
    record { layer = s.layer; image = record { x1 = omega (arith, ints, clamps); y1 = omega (arith, ints, clamps); x2 = omega (arith, ints, clamps); y2 = omega (arith, ints, clamps) } }

below_or : (a b : ℤ) → a ≡ b → a ≤ℤ b
below_or a b e = omega (arith, ints, e)

still : (a : ℤ) → a +ℤ pos 0 ≡ a
still a = omega (arith, ints)

module _ (tech : Tech) (s : Source) (flat : FlatLists) (d : IsWiredMacro tech s flat) (outer : Net → Shape) (are : AreOuterHubs s d.laid.main outer) where
  abbrev k : IsLaidMacro tech s flat
  k = d.laid

  abbrev offset : ℕ → ℤ
  offset b = pos b *ℤ s.floorplan.bank_width

  -- the shape is joined with the net's hub
  abbrev pub OnHub : Shape → Net → Type 0
  OnHub u net = AreOnOneNet tech.connects flat.shapes u (array_hub s (data_hub s outer) net)

  on_outer : (u : Shape) (number : ℕ) (net : Net) → slice_get (main_nets s.plan) number ≡ Some net → AreOnOneNet tech.connects flat.shapes u (outer net) → OnHub u net
  on_outer u number net named = subst (AreOnOneNet tech.connects flat.shapes u) (sym (hub_is_outer s outer net (main_outside s.plan number net named)))

  -- A wire of the main channel
  pub main_wire_joined : (n : Net) (u : Shape) → IsChannelWireOf (IsMainChannel s.plan s.kit s.wire s.floorplan) s.wire s.tracks.main (main_nets s.plan) n u → AreOnOneNet tech.connects flat.shapes u (array_hub s (data_hub s outer) n)
  main_wire_joined n u w =
      let r = of_route (IsMainChannel s.plan s.kit s.wire s.floorplan) s.wire s.tracks.main k.main (one_main s.plan s.kit s.wire s.tracks s.floorplan d.memory) (main_nets s.plan) n u w in
      on_outer u r.number n r.named (main_wires_joined tech s flat k.by k.joins k.sizes k.first k.main r.number u (outer n) r.of (are.main r.number n r.named))

  -- a pin's shape is joined with the hub of its net
  pub pin_on_hub : (leaf : LeafInstance) (has : HasLeafInstance s.plan leaf) (place : Place) (stands : IsPlaceOf s.plan s.kit s.floorplan leaf place) (port metal : ℕ) (net : Net) → slice_get (ports s.plan leaf) port ≡ Some net → IsBoundPin s leaf port metal → OnHub (pin_at s leaf place port metal) net
  pin_on_hub leaf has place stands port metal net on bound =
      let image = has_image place (pin_of s leaf port metal) in
      port_joined tech s flat k d.reach d.written outer are leaf has place stands port net on (pin_of s leaf port metal) (pin_at s leaf place port metal) bound (record { layer = refl; image = image.1.image })

  -- A wire of the column channel, in bank b

  column_line_joined : (b number : ℕ) (net : Net) (inner u : Shape) → b < banks_of s.plan → slice_get (column_nets s.plan) number ≡ Some net → IsDataLine s.plan net → (of : IsOfRoute (IsColumnChannel s.plan s.kit s.wire s.floorplan) s.wire s.tracks.column k.column (column_nets s.plan) net inner) → of.number ≡ number
      → IsMoved (upright_place (pos b *ℤ s.floorplan.bank_width) (pos 0)) inner u → OnHub u (in_bank b net)
  column_line_joined b number net inner u of_bank named line of same moved =
      let has : HasLeafInstance s.plan (SenseAt b line.bit) = (of_bank, line.below) in
      let home : HasLeafInstance s.plan (SenseAt 0 line.bit) = (some_bank b of_bank, line.below) in
      let drawn = sense_drawn s k.pins line.port line.few in
      let own = data_line s.plan.col_bits line.port b line.bit in
      let on_home : slice_get (ports s.plan (SenseAt 0 line.bit)) line.port ≡ Some net = sense_on s.plan line.port 0 line.bit line.few ∙ ap (λ (n : Net). Some n) (sym line.is) in
      let met = sense_meets tech s flat k.by k.joins k.sizes k.first k.floor k.column b line.bit line.port of.number net of_bank home of.named on_home drawn in
      let pin = pin_at s (SenseAt b line.bit) (slice_place s b line.bit) line.port 1 in
      let listed = pin_listed tech.connects s flat k.by (SenseAt b line.bit) (slice_place s b line.bit) line.port 1 own has refl (sense_on s.plan line.port b line.bit line.few) drawn.bound in
      let hub_is : in_bank b net ≡ own = ap (in_bank b) line.is ∙ line_in s.plan.col_bits b line.port line.bit line.few in
      subst (OnHub u) (sym hub_is)
      (nets_on tech.connects flat.shapes u met.u (array_hub s (data_hub s outer) own)
      (column_wires_joined tech s flat k.by k.joins k.sizes k.first k.column b of.number inner met.inner u met.u of_bank of.of met.of moved met.moved)
      (nets_on tech.connects flat.shapes met.u pin (array_hub s (data_hub s outer) own) (net_back tech.connects flat.shapes pin met.u listed.listed met.net)
      (pin_on_hub (SenseAt b line.bit) has (slice_place s b line.bit) refl line.port 1 own (sense_on s.plan line.port b line.bit line.few) drawn.bound)))
    where
      some_bank : (b : ℕ) → b < banks_of s.plan → 0 < banks_of s.plan
      some_bank b lt = omega (arith, lt)

  column_choice_joined : (b : ℕ) (net : Net) (inner u : Shape) → b < banks_of s.plan → (of : IsOfRoute (IsColumnChannel s.plan s.kit s.wire s.floorplan) s.wire s.tracks.column k.column (column_nets s.plan) net inner) → slice_get (choice_nets s.plan.col_bits) of.number ≡ Some net
      → IsMoved (upright_place (pos b *ℤ s.floorplan.bank_width) (pos 0)) inner u → OnHub u (in_bank b net)
  column_choice_joined b net inner u of_bank of at moved =
      let c = choice_of s.plan.col_bits net (one_at (choice_nets s.plan.col_bits) of.number net at) in
      let line = Line 0 s.plan.col_bits c.choice in
      let number = line_number s.plan 0 s.plan.col_bits c.choice (inl ((refl, refl), c.some)) c.few in
      let here : slice_get (choice_nets s.plan.col_bits) of.number ≡ Some line = at ∙ ap (λ (n : Net). Some n) c.is in
      subst (λ (n : Net). OnHub u (in_bank b n)) (sym c.is)
      (choice_wire_joined tech s flat k d.reach b c.choice number.number of.number inner u (outer line) of_bank here (listed_choice s.plan.col_bits c.choice c.some c.few) of.of moved number.named (are.main number.number line number.named))

  pub column_wire_joined : (b : ℕ) (net : Net) (inner u : Shape) → b < banks_of s.plan → IsChannelWireOf (IsColumnChannel s.plan s.kit s.wire s.floorplan) s.wire s.tracks.column (column_nets s.plan) net inner → IsShifted (pos b *ℤ s.floorplan.bank_width) (pos 0) inner u
      → AreOnOneNet tech.connects flat.shapes u (array_hub s (data_hub s outer) (in_bank b net))
  column_wire_joined b net inner u of_bank w shift =
      let r = of_route (IsColumnChannel s.plan s.kit s.wire s.floorplan) s.wire s.tracks.column k.column (one_column s.plan s.kit s.wire s.tracks s.floorplan d.memory) (column_nets s.plan) net inner w in
      let moved = shifted_is_moved (offset b) (pos 0) inner u shift in
      elim (split_at (choice_nets s.plan.col_bits) (tabulate_lists s.plan.word_size (slice_nets s.plan)) r.number net r.named) [
        | inl front ↦ column_choice_joined b net inner u of_bank r front.1 moved
        | inr back ↦ column_line_joined b r.number net inner u of_bank r.named (line_of s.plan net (one_at (tabulate_lists s.plan.word_size (slice_nets s.plan)) back.0 net back.2)) r refl moved
      ]

  -- A tap's wire
  pub tap_wire_joined : (b : ℕ) (net : Net) (inner u : Shape) → b < banks_of s.plan → (t : IsTapWireOf s.plan s.kit s.wire s.tracks.column s.floorplan net inner) → IsBox (slice_index s.wire.metals 2) t.x t.y t.end (t.y +ℤ s.wire.width) inner → IsShifted (pos b *ℤ s.floorplan.bank_width) (pos 0) inner u
      → AreOnOneNet tech.connects flat.shapes u (array_hub s (data_hub s outer) (in_bank b net))
  tap_wire_joined b net inner u of_bank t box shift =
      let at : IsTapAt s.plan s.kit s.wire s.tracks.column s.floorplan t.x t.y t.end = record { net = net; rail = t.rail; tap = t.tap } in
      let above = tap_low s.plan s.kit s.wire s.tracks s.floorplan t.x t.y t.end d.memory at in
      let on = in_bank b net in
      let top = d.named.rails b net t.x of_bank t.rail in
      on_outer u top.number on top.named
      (tapped tech s flat k.by k.joins k.sizes k.first k.pins k.floor k.main b t.rail.rail top.number net on t.x t.y t.end u (outer on) of_bank t.rail.on t.rail.at t.tap (highest tech s flat k d.reach t.x t.y t.end net t.rail t.tap above) above
      (wide.tap_long s.plan s.kit s.wire s.tracks s.floorplan d.memory k.build.words t.x t.y t.end at) (bank_rail s.plan b t.rail.rail net t.rail.on) top.named (are.main top.number on top.named) (shift.layer ∙ box.on)
      (below_or (t.x +ℤ offset b) u.rect.x1 (sym (shift.x1 ∙ ap (λ (z : ℤ). z +ℤ offset b) box.left))) (below_or u.rect.x2 (t.end +ℤ offset b) (shift.x2 ∙ ap (λ (z : ℤ). z +ℤ offset b) box.right))
      (shift.y1 ∙ (ap (λ (z : ℤ). z +ℤ pos 0) box.low ∙ still t.y)) (shift.y2 ∙ (ap (λ (z : ℤ). z +ℤ pos 0) box.high ∙ still (t.y +ℤ s.wire.width))))

  -- a shape on the fourth metal at the write cells' lower edge, where the main channel has a pin
  at_main_pin : (number : ℕ) (net : Net) (x : ℤ) (u : Shape) → slice_get (main_nets s.plan) number ≡ Some net → IsPinOf d.memory.main.channel.top number x → u.layer ≡ slice_index s.wire.metals 3 → u.rect.x1 ≡ x → u.rect.y1 ≡ s.floorplan.write_y → Contains flat.shapes u → OnHub u net
  at_main_pin number net x u named pin on left low listed =
      let met = (k.main.routed.meant.top number x).1 ((d.memory.main.meant.top number x).0 pin) in
      on_outer u number net named
      (above_main tech s flat k.by k.joins k.sizes k.first k.pins k.floor k.main number net u (outer net) named (subst (IsPinOf k.main.channel.top number) (sym left) met) on low listed (are.main number net named))

  -- A rail,
  pub rail_wire_joined : (b : ℕ) (net : Net) (inner u : Shape) → b < banks_of s.plan → IsRailWireOf s.plan s.kit s.wire s.tracks.column s.floorplan net inner → IsShifted (pos b *ℤ s.floorplan.bank_width) (pos 0) inner u → Contains flat.shapes u
      → AreOnOneNet tech.connects flat.shapes u (array_hub s (data_hub s outer) (in_bank b net))
  rail_wire_joined b net inner u of_bank r shift listed =
      let top = d.named.rails b net r.x of_bank r.rail in
      at_main_pin top.number (in_bank b net) (r.x +ℤ offset b) u top.named top.pin (shift.layer ∙ r.drawn.on) (shift.x1 ∙ ap (λ (z : ℤ). z +ℤ offset b) r.drawn.left) (shift.y1 ∙ (ap (λ (z : ℤ). z +ℤ pos 0) r.drawn.low ∙ still s.floorplan.write_y)) listed

  -- and an output's wire.
  pub output_wire_joined : (b : ℕ) (net : Net) (inner u : Shape) → b < banks_of s.plan → IsOutputWireOf s.plan s.kit s.wire s.floorplan net inner → IsShifted (pos b *ℤ s.floorplan.bank_width) (pos 0) inner u → Contains flat.shapes u
      → AreOnOneNet tech.connects flat.shapes u (array_hub s (data_hub s outer) (in_bank b net))
  output_wire_joined b net inner u of_bank o shift listed =
      let top = d.named.outputs b o.bit net o.rect of_bank o.pin in
      at_main_pin top.number (in_bank b net) (o.rect.x1 +ℤ offset b) u top.named top.pin (shift.layer ∙ o.drawn.on) (shift.x1 ∙ ap (λ (z : ℤ). z +ℤ offset b) o.drawn.left) (shift.y1 ∙ (ap (λ (z : ℤ). z +ℤ pos 0) o.drawn.low ∙ still s.floorplan.write_y)) listed
