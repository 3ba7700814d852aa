-- The points of a macro's own labels: only wires of the port's net hold them.
use Rattle.std.proofs.Common.{◌≡◌, ◌⊎◌, inl, inr, ℕ, ◌<◌, ℤ, pos, ◌<ℤ◌, ◌≤ℤ◌, ◌+ℤ◌, ◌-ℤ◌, ◌++◌, Contains, length, refl, sym, subst, ◌∙◌, arith}
use Rattle.std.specs.Prelude.{slice_index}
use Rattle.std.proofs.lemmas.Int.{ints}
use Rattle.or_geom.specs.declared.shape.Point.{Point}
use Rattle.or_geom.specs.declared.shape.Rect.{Rect}
use Rattle.or_geom.specs.declared.shape.Shape.{Shape}
use Rattle.or_geom.specs.Joined.{IsIn}
use Rattle.tech_rules.specs.declared.tech.Tech.{Tech}
use Rattle.wire_drawing.specs.Drawing.{pitch}
use Rattle.tech_rules.specs.Net.{AreOnOneNet}
use Rattle.cell_hierarchy.specs.Plain.{FlatLists}
use Rattle.channel_router.specs.Wires.{track_y}
use Rattle.channel_router.proofs.PinLaws.{pin_right}
use Rattle.label_binding.specs.declared.anchor.Anchor.{Anchor}
use Rattle.label_binding.specs.Binding.{Binds}
use Rattle.label_binding.proofs.OneBindingLaws.{binds_some}
use Rattle.sram_netlist.specs.Nets.{Net, Vdd, Gnd}
use Rattle.macro_layout.specs.Floorplan.{upper_y}
use Rattle.macro_layout.specs.Pins.{port_nets}
use Rattle.macro_layout.specs.Channels.{IsMainChannel, IsTrunkAt}
use Rattle.macro_layout.specs.Wires.{trunk_x, ground_x}
use Rattle.good_wires.specs.Spaced.{AreApart}
use Rattle.joined_nets.proofs.WireNetLaws.{place_below}
use Rattle.joined_nets.specs.WireNets.{IsWireOfNet}
use Rattle.kit_nets.specs.StatedParts.{Source}
use Rattle.kit_nets.specs.OuterHubs.{AreOuterHubs}
use Rattle.kit_nets.proofs.ArrayJoinLaws.{array_hub}
use Rattle.kit_nets.proofs.ChannelDrawnLaws.{box_there, drawn_as_is}
use Rattle.kit_nets.proofs.DataHubLaws.{data_hub}
use Rattle.kit_nets.proofs.PartsLaws.{stated_are_parts}
use Rattle.supply_nets.specs.LaidMacro.{IsLaidMacro}
use Rattle.supply_nets.proofs.LevelLaws.{precharge_power_level}
use Rattle.wire_nets.specs.Named.{AreToldOn}
use Rattle.wire_nets.proofs.SecondToldLaws.{second_told}
use Rattle.wire_nets.proofs.ThirdToldLaws.{third_told}
use Rattle.wired_macros.specs.WiredMacro.{IsWiredMacro}
use Rattle.wired_macros.specs.Texts.{AreLeavesInside}
use Rattle.wired_macros.proofs.ClearLaws.{leaf_clear}
use Rattle.wired_macros.proofs.TopNetLaws.{IsSignal, signal_named}
use Rattle.wired_macros.proofs.WireJoinLaws.{as_drawn, wire_joined}

-- what holds one point isn't apart
not_apart : (space : ℤ) (a b : Rect) (p : Point) → pos 1 ≤ℤ space → IsIn a p → IsIn b p → AreApart space a b → ⊥
not_apart space a b p some in_a in_b (inl left) = let x = in_a.right in let y = in_b.left in let l1 = in_a.left in omega (arith, ints, some, left)
not_apart space a b p some in_a in_b (inr (inl right)) = let x = in_b.right in let y = in_a.left in omega (arith, ints, some, right)
not_apart space a b p some in_a in_b (inr (inr (inl low))) = let x = in_a.high in let y = in_b.low in omega (arith, ints, some, low)
not_apart space a b p some in_a in_b (inr (inr (inr high))) = let x = in_b.high in let y = in_a.low in omega (arith, ints, some, high)

module _ (tech : Tech) (s : Source) (flat : FlatLists) (d : IsWiredMacro tech s flat) (outer : Net → Shape) (are : AreOuterHubs s d.laid.main outer) (inside : AreLeavesInside s) where
  abbrev k : IsLaidMacro tech s flat
  k = d.laid

  -- The point is held by a wire of the net on a metal, at the macro's left edge or where a supply's trunk is.
  pub record IsAnchored (net : Net) (anchor : Anchor) : Type 0 where
    pub metal : ℕ
    pub few : metal < 4
    pub layer : anchor.layer ≡ slice_index s.wire.metals metal
    pub wire : Shape
    pub is : IsWireOfNet s.plan s.kit s.wire s.tracks s.floorplan net wire
    pub on : wire.layer ≡ slice_index s.wire.metals metal
    pub holds : IsIn wire.rect anchor.at
    pub far : (anchor.at.x ≡ pos 0) ⊎ (trunk_x s.plan s.kit s.wire s.floorplan ≤ℤ anchor.at.x)
    pub told : AreToldOn s.plan s.kit s.wire s.tracks s.floorplan (slice_index s.wire.metals metal)

  -- A label there binds a shape,
  pub anchored_binds : (net : Net) (anchor : Anchor) → IsAnchored net anchor → (u : Shape) × Binds flat.shapes anchor u
  anchored_binds net anchor a =
      let stands = (stated_are_parts tech.connects s flat k.by).wires net a.wire (drawn_as_is s.layers s.wire (IsWireOfNet s.plan s.kit s.wire s.tracks s.floorplan net) a.wire k.first (inl (record { place = a.metal; below = a.few; on = a.on })) a.is) in
      binds_some flat.shapes anchor (λ none. none a.wire stands (record { on = a.on ∙ sym a.layer; holds = a.holds }))

  beyond : {X : Type 0} (r : Rect) (p : Point) → IsIn r p → (p.x ≡ pos 0) ⊎ (trunk_x s.plan s.kit s.wire s.floorplan ≤ℤ p.x) → pitch s.wire ≤ℤ r.x1 → (r.x2 +ℤ s.wire.space) ≤ℤ trunk_x s.plan s.kit s.wire s.floorplan → X
  beyond r p holds (inl left) from to = absurd (by r.x1 p.x s.wire.width s.wire.space holds.left left from k.sizes.width.from k.sizes.space.from) where
    by : (x1 x w space : ℤ) → x1 ≤ℤ x → x ≡ pos 0 → (w +ℤ space) ≤ℤ x1 → pos 1 ≤ℤ w → pos 1 ≤ℤ space → ⊥
    by x1 x w space a e b c f = omega (arith, ints, a, e, b, c, f)
  beyond r p holds (inr right) from to = absurd (by r.x2 p.x s.wire.space (trunk_x s.plan s.kit s.wire s.floorplan) holds.right right to k.sizes.space.from) where
    by : (x2 x space t : ℤ) → x ≤ℤ x2 → t ≤ℤ x → (x2 +ℤ space) ≤ℤ t → pos 1 ≤ℤ space → ⊥
    by x2 x space t a b c f = omega (arith, ints, a, b, c, f)

  -- which is joined with the net's hub.
  pub anchored_joined : (net : Net) (anchor : Anchor) (u : Shape) → IsAnchored net anchor → Binds flat.shapes anchor u → AreOnOneNet tech.connects flat.shapes u (array_hub s (data_hub s outer) net)
  anchored_joined net anchor u a binds = elim ((stated_are_parts tech.connects s flat k.by).all u binds.listed) [
    | inl leaf ↦ let clear = leaf_clear tech s flat d inside leaf.0 leaf.1 u leaf.2 (inl (subst (Contains s.wire.metals) (sym on) (d.laid.first.metals a.metal a.few))) in beyond u.rect anchor.at binds.under.holds a.far clear.left clear.right
    | inr wire ↦ elim (a.told wire.0 net u a.wire (as_drawn tech s flat d outer are wire.0 u wire.1) a.is on a.on) [
      | inl same ↦ subst (λ (n : Net). AreOnOneNet tech.connects flat.shapes u (array_hub s (data_hub s outer) n)) same (wire_joined tech s flat d outer are wire.0 u wire.1)
      | inr apart ↦ absurd (not_apart s.wire.space u.rect a.wire.rect anchor.at k.sizes.space.from binds.under.holds a.holds apart)
    ]
  ] where
    on : u.layer ≡ slice_index s.wire.metals a.metal
    on = binds.under.on ∙ a.layer

  -- The left end of a signal's trunk
  pub signal_anchored : (net : Net) (signal : IsSignal s.plan net) (y : ℤ) → IsTrunkAt (IsMainChannel s.plan s.kit s.wire s.floorplan) s.wire s.tracks.main signal.number y → (anchor : Anchor) → anchor.layer ≡ slice_index s.wire.metals 2 → anchor.at.x ≡ pos 0 → anchor.at.y ≡ y → IsAnchored net anchor
  signal_anchored net signal y t anchor layer at_x at_y =
      let w = s.wire.width in
      let within : signal.number < length (port_nets s.plan) = place_below (port_nets s.plan) signal.number net signal.listed in
      let exit = (t.routed.meant.exits signal.number (pos 0)).1 (record { port = within; left = refl }) in
      let place = pin_right (t.channel.top ++ t.channel.bottom) t.channel.exits signal.number (pos 0) exit in
      let is = t.routed.nets.of_net signal.number t.interval t.has.there in
      let from = is.least (pos 0) place in
      let to = is.greatest (pos 0) place in
      let low = track_y t.channel.low s.wire t.on in
      let box = box_there (slice_index s.wire.metals 2) t.interval.left low (t.interval.right +ℤ w) (low +ℤ w) (wide t.interval.left t.interval.right w from to k.sizes.width.from) (tall low w k.sizes.width.from) in
      record {
        metal = 2;
        few = omega arith;
        layer = layer;
        wire = box.0;
        is = inl (inl (record { channel = t.channel; intervals = t.intervals; track = t.track; routed = t.routed; number = signal.number; named = signal_named s.plan net signal; drawn = record { interval = t.interval; t = t.on; has = t.has; wires = inl box.1 } }));
        on = box.1.on;
        holds = record {
          left = at_left box.0.rect.x1 t.interval.left anchor.at.x box.1.left from at_x;
          right = at_right box.0.rect.x2 t.interval.right w anchor.at.x box.1.right to k.sizes.width.from at_x;
          low = at_low box.0.rect.y1 low y anchor.at.y box.1.low t.at at_y;
          high = at_high box.0.rect.y2 low w y anchor.at.y box.1.high t.at at_y k.sizes.width.from;
        };
        far = inl at_x;
        told = third_told s.plan s.kit s.wire s.tracks s.floorplan d.memory d.named;
      }
    where
      wide : (left right w : ℤ) → left ≤ℤ pos 0 → pos 0 ≤ℤ right → pos 1 ≤ℤ w → left <ℤ (right +ℤ w)
      wide left right w a b c = omega (arith, ints, a, b, c)

      tall : (y w : ℤ) → pos 1 ≤ℤ w → y <ℤ (y +ℤ w)
      tall y w c = omega (arith, ints, c)

      at_left : (x1 left x : ℤ) → x1 ≡ left → left ≤ℤ pos 0 → x ≡ pos 0 → x1 ≤ℤ x
      at_left x1 left x a b c = omega (arith, ints, a, b, c)

      at_right : (x2 right w x : ℤ) → x2 ≡ right +ℤ w → pos 0 ≤ℤ right → pos 1 ≤ℤ w → x ≡ pos 0 → x ≤ℤ x2
      at_right x2 right w x a b c e = omega (arith, ints, a, b, c, e)

      at_low : (y1 low y at : ℤ) → y1 ≡ low → y ≡ low → at ≡ y → y1 ≤ℤ at
      at_low y1 low y at a b c = omega (arith, ints, a, b, c)

      at_high : (y2 low w y at : ℤ) → y2 ≡ low +ℤ w → y ≡ low → at ≡ y → pos 1 ≤ℤ w → at ≤ℤ y2
      at_high y2 low w y at a b c e = omega (arith, ints, a, b, c, e)

  same_or_below : (a b : ℤ) → a ≡ b → a ≤ℤ b
  same_or_below a b e = omega (arith, ints, e)

  at_right_end : (x2 x w at : ℤ) → x2 ≡ x +ℤ w → at ≡ x → pos 1 ≤ℤ w → at ≤ℤ x2
  at_right_end x2 x w at a b c = omega (arith, ints, a, b, c)

  at_upper_end : (y2 upper w at : ℤ) → y2 ≡ upper → pos 0 ≤ℤ (upper -ℤ w) → pos 1 ≤ℤ w → at ≡ pos 0 → at ≤ℤ y2
  at_upper_end y2 upper w at a b c e = omega (arith, ints, a, b, c, e)

  low_edge : pos 0 ≤ℤ (upper_y s.kit s.floorplan -ℤ s.wire.width)
  low_edge = (precharge_power_level s k.sizes k.floor k.inside).low

  -- the lower left corner of a supply's trunk
  pub power_anchored : (anchor : Anchor) → anchor.layer ≡ slice_index s.wire.metals 1 → anchor.at.x ≡ trunk_x s.plan s.kit s.wire s.floorplan → anchor.at.y ≡ pos 0 → IsAnchored Vdd anchor
  power_anchored anchor layer at_x at_y = record {
    metal = 1;
    few = omega arith;
    layer = layer;
    wire = outer Vdd;
    is = inl (inr (inl (refl, inl are.power)));
    on = are.power.on;
    holds = record {
      left = same_or_below (outer Vdd).rect.x1 anchor.at.x (are.power.left ∙ sym at_x);
      right = at_right_end (outer Vdd).rect.x2 (trunk_x s.plan s.kit s.wire s.floorplan) s.wire.width anchor.at.x are.power.right at_x k.sizes.width.from;
      low = same_or_below (outer Vdd).rect.y1 anchor.at.y (are.power.low ∙ sym at_y);
      high = at_upper_end (outer Vdd).rect.y2 (upper_y s.kit s.floorplan) s.wire.width anchor.at.y are.power.high low_edge k.sizes.width.from at_y;
    };
    far = inr (same_or_below (trunk_x s.plan s.kit s.wire s.floorplan) anchor.at.x (sym at_x));
    told = second_told s.plan s.kit s.wire s.tracks s.floorplan d.memory d.named;
  }

  pub ground_anchored : (anchor : Anchor) → anchor.layer ≡ slice_index s.wire.metals 1 → anchor.at.x ≡ ground_x s.plan s.kit s.wire s.floorplan → anchor.at.y ≡ pos 0 → IsAnchored Gnd anchor
  ground_anchored anchor layer at_x at_y = record {
    metal = 1;
    few = omega arith;
    layer = layer;
    wire = outer Gnd;
    is = inl (inr (inr (refl, inl are.ground)));
    on = are.ground.on;
    holds = record {
      left = same_or_below (outer Gnd).rect.x1 anchor.at.x (are.ground.left ∙ sym at_x);
      right = at_right_end (outer Gnd).rect.x2 (ground_x s.plan s.kit s.wire s.floorplan) s.wire.width anchor.at.x are.ground.right at_x k.sizes.width.from;
      low = same_or_below (outer Gnd).rect.y1 anchor.at.y (are.ground.low ∙ sym at_y);
      high = at_upper_end (outer Gnd).rect.y2 (upper_y s.kit s.floorplan) s.wire.width anchor.at.y are.ground.high low_edge k.sizes.width.from at_y;
    };
    far = inr (further (trunk_x s.plan s.kit s.wire s.floorplan) s.wire.width s.wire.space anchor.at.x at_x k.sizes.width.from k.sizes.space.from);
    told = second_told s.plan s.kit s.wire s.tracks s.floorplan d.memory d.named;
  } where
    further : (t w space x : ℤ) → x ≡ t +ℤ (w +ℤ space) → pos 1 ≤ℤ w → pos 1 ≤ℤ space → t ≤ℤ x
    further t w space x e a b = omega (arith, ints, e, a, b)
