-- Each wire of a net is joined with the net's hub.
use Rattle.std.proofs.Common.{◌≡◌, ◌⊎◌, inl, inr, ℕ, ◌+◌, ◌<◌, ℤ, pos, ◌<ℤ◌, ◌≤ℤ◌, ◌+ℤ◌, ◌-ℤ◌, ◌*ℤ◌, Contains, sym, subst, ◌∙◌, arith}
use Rattle.std.specs.Prelude.{slice_index}
use Rattle.std.proofs.lemmas.Int.{ints}
use Rattle.or_geom.specs.declared.shape.Shape.{Shape}
use Rattle.or_geom.specs.Covered.{HasCell}
use Rattle.tech_rules.specs.declared.tech.Tech.{Tech}
use Rattle.wire_drawing.specs.Drawing.{IsBox}
use Rattle.tech_rules.specs.Net.{AreOnOneNet}
use Rattle.tech_rules.specs.Touch.{IsCutTo, Touch, TouchByCut}
use Rattle.tech_rules.specs.WireRules.{margin}
use Rattle.wire_drawing.proofs.DrawingLaws.{twice_margin}
use Rattle.tech_rules.proofs.LinkedLaws.{linked_next}
use Rattle.cell_hierarchy.specs.Plain.{FlatLists}
use Rattle.sram_netlist.specs.Organization.{banks_of}
use Rattle.sram_netlist.specs.Nets.{Net}
use Rattle.macro_layout.specs.Stated.{IsShifted}
use Rattle.macro_layout.specs.Wires.{IsBar, trunk_x, ground_x}
use Rattle.good_nets.proofs.NetLaws.{nets_on}
use Rattle.leaf_shapes.specs.Outline.{IsWireLayer}
use Rattle.good_wires.specs.Held.{IsCutHeld}
use Rattle.good_wires.proofs.LayerLaws.{cut_no_metal}
use Rattle.joined_nets.specs.WireNets.{in_bank, IsBankWireOf, IsWireOfNet}
use Rattle.kit_nets.specs.StatedParts.{Source, stated_parts}
use Rattle.kit_nets.specs.OuterHubs.{AreOuterHubs}
use Rattle.kit_nets.proofs.ArrayJoinLaws.{array_hub}
use Rattle.kit_nets.proofs.ChannelDrawnLaws.{drawn_as_is}
use Rattle.kit_nets.proofs.DataHubLaws.{data_hub}
use Rattle.kit_nets.proofs.PartsLaws.{stated_are_parts}
use Rattle.supply_nets.specs.LaidMacro.{IsLaidMacro}
use Rattle.wire_nets.proofs.HeldNetLaws.{cuts_held}
use Rattle.wired_macros.specs.WiredMacro.{IsWiredMacro}
use Rattle.wired_macros.proofs.SupplyWireLaws.{power_wire_joined, ground_wire_joined, write_joiner_joined, corner_joiner_joined}
use Rattle.wired_macros.proofs.BankWireLaws.{main_wire_joined, column_wire_joined, tap_wire_joined, rail_wire_joined, output_wire_joined}

one_shape : (s t : Shape) → s.layer ≡ t.layer → s.rect ≡ t.rect → s ≡ t
one_shape s t p q = λ i. record { layer = p i; rect = q i }

-- what is held by a margin on each side shares area with what holds it
within : (a b x y m : ℤ) → pos 0 ≤ℤ m → (a +ℤ m) ≤ℤ x → (y +ℤ m) ≤ℤ b → x <ℤ y → (a ≤ℤ x) × (x <ℤ b)
within a b x y m some left right wide = (omega (arith, ints, some, left), omega (arith, ints, some, right, wide))

first_cell : (s : Shape) → HasCell s.rect s.rect.x1 s.rect.y1
first_cell s =
    let wide : s.rect.x1 <ℤ s.rect.x2 = s.rect.wide in
    let tall : s.rect.y1 <ℤ s.rect.y2 = s.rect.tall in
    record { left = omega (arith, ints); right = wide; low = omega (arith, ints); high = tall }

module _ (tech : Tech) (s : Source) (flat : FlatLists) (d : IsWiredMacro tech s flat) (outer : Net → Shape) (are : AreOuterHubs s d.laid.main outer) where
  abbrev k : IsLaidMacro tech s flat
  k = d.laid

  abbrev IsWire : Net → Shape → Type 0
  IsWire n u = IsWireOfNet s.plan s.kit s.wire s.tracks s.floorplan n u

  abbrev OnHub : Shape → Net → Type 0
  OnHub u net = AreOnOneNet tech.connects flat.shapes u (array_hub s (data_hub s outer) net)

  -- a shape on a metal is no cut
  no_cut : {X : Type 0} (u : Shape) (i j : ℕ) → i < 4 → j < 3 → u.layer ≡ slice_index s.wire.metals i → u.layer ≡ slice_index s.wire.cuts j → X
  no_cut u i j of_metal of_cut on at = absurd (cut_no_metal s.wire j i d.memory.seven of_cut of_metal (sym at ∙ on))

  bar_box : (u : Shape) (i : ℕ) (trunk x y : ℤ) → i < 4 → u.layer ≡ slice_index s.wire.metals i → IsBar s.wire trunk x y u → IsBox (slice_index s.wire.metals 0) x y (trunk +ℤ s.wire.width) (y +ℤ s.wire.width) u
  bar_box u i trunk x y of_metal on (inl box) = box
  bar_box u i trunk x y of_metal on (inr via) = no_cut u i 0 of_metal (omega arith) on via.on

  -- a wire of a bank, on a metal
  bank_joined : (b i : ℕ) (net : Net) (inner u : Shape) → b < banks_of s.plan → i < 4 → IsBankWireOf s.plan s.kit s.wire s.tracks s.floorplan net inner → IsShifted (pos b *ℤ s.floorplan.bank_width) (pos 0) inner u → u.layer ≡ slice_index s.wire.metals i → Contains flat.shapes u → OnHub u (in_bank b net)
  bank_joined b i net inner u of_bank of_metal (inl channel) shift on listed = column_wire_joined tech s flat d outer are b net inner u of_bank channel shift
  bank_joined b i net inner u of_bank of_metal (inr (inl tap)) shift on listed = elim tap.drawn [
    | inl box ↦ tap_wire_joined tech s flat d outer are b net inner u of_bank tap box shift
    | inr via ↦ no_cut u i 2 of_metal (omega arith) on (shift.layer ∙ via.on)
  ]
  bank_joined b i net inner u of_bank of_metal (inr (inr (inl rail))) shift on listed = rail_wire_joined tech s flat d outer are b net inner u of_bank rail shift listed
  bank_joined b i net inner u of_bank of_metal (inr (inr (inr (inl output)))) shift on listed = output_wire_joined tech s flat d outer are b net inner u of_bank output shift listed
  bank_joined b i net inner u of_bank of_metal (inr (inr (inr (inr (is, inl joiner))))) shift on listed = subst (λ (n : Net). OnHub u (in_bank b n)) (sym is) (write_joiner_joined tech s flat k d.memory outer are b inner u of_bank joiner shift)
  bank_joined b i net inner u of_bank of_metal (inr (inr (inr (inr (is, inr joiner))))) shift on listed = subst (λ (n : Net). OnHub u (in_bank b n)) (sym is) (corner_joiner_joined tech s flat k d.memory outer are b inner u of_bank joiner shift)

  -- a wire on a metal
  metal_joined : (n : Net) (u : Shape) (i : ℕ) → i < 4 → u.layer ≡ slice_index s.wire.metals i → IsWire n u → Contains flat.shapes u → OnHub u n
  metal_joined n u i of_metal on (inl (inl channel)) listed = main_wire_joined tech s flat d outer are n u channel
  metal_joined n u i of_metal on (inl (inr (inl power))) listed =
      subst (OnHub u) (sym power.0) (power_wire_joined tech s flat k d.memory outer are u power.1 (λ x y bar. bar_box u i (trunk_x s.plan s.kit s.wire s.floorplan) x y of_metal on bar))
  metal_joined n u i of_metal on (inl (inr (inr ground))) listed =
      subst (OnHub u) (sym ground.0) (ground_wire_joined tech s flat k d.memory outer are u ground.1 (λ x y bar. bar_box u i (ground_x s.plan s.kit s.wire s.floorplan) x y of_metal on bar))
  metal_joined n u i of_metal on (inr b) listed = subst (OnHub u) (sym b.named) (bank_joined b.bank i b.net b.inner u b.below of_metal b.is b.shifted on listed)

  some_margin : pos 0 ≤ℤ margin s.wire
  some_margin = by (margin s.wire) s.wire.cut s.wire.width (twice_margin s.wire k.sizes) k.sizes.centred.narrow where
    by : (m c w : ℤ) → m +ℤ m ≡ w -ℤ c → c <ℤ w → pos 0 ≤ℤ m
    by m c w two narrow = omega (arith, ints, two, narrow)

  -- a cut that a wire of the net holds
  cut_joined : (n : Net) (u : Shape) (j : ℕ) → j < 3 → u.layer ≡ slice_index s.wire.cuts j → IsCutHeld (IsWire n) s.wire j u → OnHub u n
  cut_joined n u j of_cut on h =
      let stands = (stated_are_parts tech.connects s flat k.by).wires n h.holder (drawn_as_is s.layers s.wire (IsWire n) h.holder k.first (inl (record { place = j; below = of_metal; on = h.on })) h.is) in
      let x = within h.holder.rect.x1 h.holder.rect.x2 u.rect.x1 u.rect.x2 (margin s.wire) some_margin h.left h.right u.rect.wide in
      let y = within h.holder.rect.y1 h.holder.rect.y2 u.rect.y1 u.rect.y2 (margin s.wire) some_margin h.low h.high u.rect.tall in
      let touch : TouchByCut tech.connects u h.holder = record {
        connects = subst (λ (l : ℕ). IsCutTo tech.connects l h.holder.layer) (sym on) (subst (λ (l : ℕ). IsCutTo tech.connects (slice_index s.wire.cuts j) l) (sym h.on) (k.joins.below j of_cut));
        area = record { x = u.rect.x1; y = u.rect.y1; in_a = first_cell u; in_b = record { left = x.0; right = x.1; low = y.0; high = y.1 } };
      } in
      nets_on tech.connects flat.shapes u h.holder (array_hub s (data_hub s outer) n) (linked_next (Contains flat.shapes) (Touch tech.connects) u h.holder stands (inr (inl touch))) (metal_joined n h.holder j of_metal h.on h.is stands)
    where
      of_metal : j < 4
      of_metal = omega (arith, of_cut)

  held : (n : Net) (u : Shape) → IsWire n u → ((j : ℕ) × (j < 3) × (u.layer ≡ slice_index s.wire.cuts j) × IsCutHeld (IsWire n) s.wire j u × IsCutHeld (IsWire n) s.wire (j + 1) u) ⊎ ((i : ℕ) × (i < 4) × (u.layer ≡ slice_index s.wire.metals i))
  held n u is = cuts_held s.plan s.kit s.wire s.tracks s.floorplan d.memory k.build.words d.reach n u is

  -- A wire of the stated layout is drawn so,
  pub as_drawn : (n : Net) (u : Shape) → (stated_parts s).Wire n u → IsWireOfNet s.plan s.kit s.wire s.tracks s.floorplan n u
  as_drawn n u h = subst (IsWire n) (sym (one_shape u h.wire (d.laid.first.first h.wire.layer u.layer h.layer (of_wires (held n h.wire h.drawn)) h.on h.first) h.rect)) h.drawn where
    of_wires : ((j : ℕ) × (j < 3) × (h.wire.layer ≡ slice_index s.wire.cuts j) × IsCutHeld (IsWire n) s.wire j h.wire × IsCutHeld (IsWire n) s.wire (j + 1) h.wire) ⊎ ((i : ℕ) × (i < 4) × (h.wire.layer ≡ slice_index s.wire.metals i)) → IsWireLayer s.wire h.wire.layer
    of_wires (inl (j, lt, on, under, over)) = inr (subst (λ (l : ℕ). Contains s.wire.cuts l) (sym on) (d.laid.first.cuts j lt))
    of_wires (inr (i, lt, on)) = inl (subst (λ (l : ℕ). Contains s.wire.metals l) (sym on) (d.laid.first.metals i lt))

  -- and joined with the hub of its net.
  pub wire_joined : (n : Net) (u : Shape) → (stated_parts s).Wire n u → AreOnOneNet tech.connects flat.shapes u (array_hub s (data_hub s outer) n)
  wire_joined n u stated = elim (held n u (as_drawn n u stated)) [
    | inl cut ↦ cut_joined n u cut.0 cut.1 cut.2 cut.3
    | inr metal ↦ metal_joined n u metal.0 metal.1 metal.2 (as_drawn n u stated) ((stated_are_parts tech.connects s flat k.by).wires n u stated)
  ]
