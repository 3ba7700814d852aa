-- Each port of the macro has a label, which binds a shape, and what its labels bind is joined with the hub of its net.
use Rattle.std.proofs.Common.{◌≡◌, inl, inr, ℕ, ℤ, pos, List, [], ◌∷◌, Contains, Option, Some, refl, sym, ap, subst, ◌∙◌, arith}
use Rattle.std.specs.Prelude.{slice_get, slice_index}
use Rattle.or_geom.specs.declared.shape.Point.{Point}
use Rattle.or_geom.specs.declared.shape.Shape.{Shape}
use Rattle.or_geom.proofs.ListLaws.{contains_map, one_at}
use Rattle.netlist.specs.declared.rows.RowPin.{RowPin}
use Rattle.tech_rules.specs.declared.tech.Layer.{Layer}
use Rattle.tech_rules.specs.declared.tech.Tech.{Tech}
use Rattle.tech_rules.specs.Net.{AreOnOneNet}
use Rattle.element_drawing.specs.PlainLabel.{PlainLabel}
use Rattle.element_drawing.specs.OwnLabels.{text_place_of}
use Rattle.cell_builder.specs.declared.cell.PlacedLabel.{PlacedLabel}
use Rattle.cell_hierarchy.specs.Plain.{FlatLists}
use Rattle.cell_hierarchy.specs.FlatSet.{path_under}
use Rattle.channel_router.specs.Wires.{track_y}
use Rattle.net_extractor.specs.declared.label.Anchor.{Anchor}
use Rattle.net_extractor.specs.PlainNetLabel.{PlainNetLabel}
use Rattle.net_extractor.specs.Binding.{Binds}
use Rattle.net_extractor.specs.Difference.{in_lower_case}
use Rattle.net_extractor.specs.Extraction.{label_of, anchor_of, AreNetsUnder}
use Rattle.sram_netlist.specs.Nets.{Net, Vdd, Gnd}
use Rattle.sram_netlist.specs.Names.{net_name, leaf_path}
use Rattle.macro_layout.specs.Pins.{port_nets, main_nets}
use Rattle.macro_layout.specs.Channels.{IsMainChannel, IsTrunkAt}
use Rattle.macro_layout.specs.Stated.{IsOnFirstTextLayer}
use Rattle.macro_layout.specs.Wires.{trunk_x, ground_x, IsLabelInMacro}
use Rattle.good_nets.specs.Drawn.{BindsFor}
use Rattle.good_nets.specs.Parts.{IsOfNet}
use Rattle.joined_nets.proofs.WireNetLaws.{item_there, place_below}
use Rattle.row_nets.specs.Rows.{IsRowOfMacro}
use Rattle.kit_nets.specs.PathsTell.{DoPathsTell}
use Rattle.kit_nets.specs.StatedParts.{Source, stated_parts}
use Rattle.kit_nets.specs.OuterHubs.{AreOuterHubs}
use Rattle.kit_nets.proofs.ArrayJoinLaws.{array_hub}
use Rattle.kit_nets.proofs.DataHubLaws.{data_hub}
use Rattle.kit_nets.proofs.LabelLaws.{unmapped}
use Rattle.supply_nets.specs.LaidMacro.{IsLaidMacro}
use Rattle.wired_macros.specs.WiredMacro.{IsWiredMacro}
use Rattle.wired_macros.specs.Texts.{IsFirstTextLayer, AreFirstTextLayers, AreLeavesInside}
use Rattle.wired_macros.proofs.AnchorLaws.{IsAnchored, anchored_binds, anchored_joined, signal_anchored, power_anchored, ground_anchored}
use Rattle.wired_macros.proofs.BankWireLaws.{one_at as listed_at}
use Rattle.macro_nets.proofs.PortKindLaws.{main_net_hub_of, supply_hub_of}
use Rattle.wired_macros.proofs.TopNetLaws.{IsTopNet, signal_top, power_top, ground_top, top_low, top_told, IsSignal, IsPortNet, port_net, port_net_top, signal_named, signal_main}

-- a path in lower case that is empty is empty
none_lower : (path : List ℕ) → in_lower_case path ≡ [] → path ≡ []
none_lower [] e = refl
none_lower (c ∷ cs) e = absurd cc

none_above : (path below : List ℕ) → path_under path below ≡ [] → path ≡ []
none_above path [] e = e
none_above [] (b ∷ bs) e = refl
none_above (c ∷ cs) (b ∷ bs) e = absurd cc

-- a text layer is what its numbers say
text_layer : (layers : List Layer) (index place found : ℕ) (layer : Layer) → IsFirstTextLayer layers index → place ≡ index → slice_get layers place ≡ Some layer → text_place_of layers layer.text_number layer.texttype ≡ Some found → found ≡ index
text_layer layers index place found layer first same there is = some_number found index (sym is ∙ (ap (λ (l : Layer). text_place_of layers l.text_number l.texttype) (one_at layers index layer first.layer (ap (slice_get layers) (sym same) ∙ there) first.there) ∙ first.first)) where
  some_number : (a b : ℕ) → ◌≡◌ {A = Option ℕ} (Some a) (Some b) → a ≡ b
  some_number a b e = cc

module _ (tech : Tech) (s : Source) (flat : FlatLists) (d : IsWiredMacro tech s flat) (outer : Net → Shape) (are : AreOuterHubs s d.laid.main outer) (inside : AreLeavesInside s) (texts : AreFirstTextLayers s.layers s.wire) (tell : DoPathsTell s.plan)
    (labels : List PlainNetLabel) (nets : AreNetsUnder tech.connects flat.shapes flat.labels labels) (rows : List RowPin) where
  abbrev k : IsLaidMacro tech s flat
  k = d.laid

  abbrev IsAt : Net → Anchor → Type 0
  IsAt net anchor = IsAnchored tech s flat d outer are inside net anchor

  abbrev IsWritten : PlainLabel → Type 0
  IsWritten label = IsOnFirstTextLayer s.layers (IsLabelInMacro s.plan s.kit s.wire s.tracks s.floorplan) label

  -- Labels of the macro itself

  -- one with the name of a top net stands where the net is
  record IsNamedAt (text : PlacedLabel) (label : PlainLabel) : Type 0 where
    net : Net
    top : IsTopNet s.plan net
    named : text.text ≡ net_name s.plan net
    anchored : IsAt net (record { layer = label.layer; at = label.at })

  named_at : (label : PlainLabel) (w : IsWritten label) → IsNamedAt w.text label
  named_at label w = by w.written where
    x_at : (x : ℤ) → w.text.at.x ≡ x → label.at.x ≡ x
    x_at x e = ap (λ (p : Point). p.x) w.at ∙ e

    y_at : (y : ℤ) → w.text.at.y ≡ y → label.at.y ≡ y
    y_at y e = ap (λ (p : Point). p.y) w.at ∙ e

    by : IsLabelInMacro s.plan s.kit s.wire s.tracks s.floorplan w.text → IsNamedAt w.text label
    by (inl port) =
        let signal : IsSignal s.plan port.net = record { number = port.number; listed = port.port } in
        record {
          net = port.net;
          top = signal_top s.plan port.net (listed_at (port_nets s.plan) port.number port.net port.port);
          named = port.text.text_is;
          anchored = signal_anchored tech s flat d outer are inside port.net signal port.y port.trunk (record { layer = label.layer; at = label.at }) (text_layer s.layers (slice_index s.wire.metals 2) w.text.layer label.layer w.layer texts.third port.text.layer w.on w.first)
              (x_at (pos 0) port.text.x_is) (y_at port.y port.text.y_is);
        }
    by (inr (inl power)) = record {
      net = Vdd;
      top = power_top s.plan;
      named = power.text_is;
      anchored = power_anchored tech s flat d outer are inside (record { layer = label.layer; at = label.at }) (text_layer s.layers (slice_index s.wire.metals 1) w.text.layer label.layer w.layer texts.second power.layer w.on w.first)
          (x_at (trunk_x s.plan s.kit s.wire s.floorplan) power.x_is) (y_at (pos 0) power.y_is);
    }
    by (inr (inr ground)) = record {
      net = Gnd;
      top = ground_top s.plan;
      named = ground.text_is;
      anchored = ground_anchored tech s flat d outer are inside (record { layer = label.layer; at = label.at }) (text_layer s.layers (slice_index s.wire.metals 1) w.text.layer label.layer w.layer texts.second ground.layer w.on w.first)
          (x_at (ground_x s.plan s.kit s.wire s.floorplan) ground.x_is) (y_at (pos 0) ground.y_is);
    }

  -- What a label of a port of the macro binds is joined with the hub of its net.
  pub macro_to_hub : (net : Net) (row : RowPin) (shape : Shape) → IsRowOfMacro s.plan s.kit.cell s.bits rows net row → BindsFor flat.shapes labels row shape → AreOnOneNet tech.connects flat.shapes shape (array_hub s (data_hub s outer) net)
  macro_to_hub net row shape r b =
      let e = b.label in
      let listed = subst (λ (ls : List PlainLabel). Contains ls (label_of e)) nets.each (contains_map label_of labels e b.listed) in
      elim ((k.by.stated.labels (label_of e)).0 listed) [
        | inl text ↦
            let at = named_at (label_of e) text in
            let name : net_name s.plan at.net ≡ net_name s.plan net = sym (top_low s.plan k.build at.net at.top) ∙ (ap in_lower_case (sym (text.name ∙ at.named)) ∙ (b.of.name ∙ r.is.row_name)) in
            let same = top_told s.plan k.build at.net net at.top (port_net_top s.plan net (port_net s.plan r.place net r.on)) name in
            subst (λ (n : Net). AreOnOneNet tech.connects flat.shapes shape (array_hub s (data_hub s outer) n)) same (anchored_joined tech s flat d outer are inside at.net (anchor_of e) shape at.anchored b.binds)
        | inr leaf ↦ absurd (tell.some leaf.leaf leaf.has (none_above (leaf_path s.plan leaf.leaf) leaf.taken.inner.path (sym leaf.taken.moved.path ∙ none_lower e.path (b.of.path ∙ r.is.row_path))))
      ]

  -- a label that is written for a net, on a text layer of the wires
  written_bound : (net : Net) (row : RowPin) (index : ℕ) (at : Point) → IsTopNet s.plan net → row.path ≡ [] → row.pin ≡ net_name s.plan net → (first : IsFirstTextLayer s.layers index) → IsLabelInMacro s.plan s.kit s.wire s.tracks s.floorplan (record { layer = index; at = at; text = net_name s.plan net })
      → IsAt net (record { layer = index; at = at }) → (shape : Shape) × BindsFor flat.shapes labels row shape
  written_bound net row index at top path name first written anchored =
      let plain : PlainLabel = record { path = []; name = net_name s.plan net; layer = index; at = at } in
      let text : PlacedLabel = record { layer = index; at = at; text = net_name s.plan net } in
      let in_flat = (k.by.stated.labels plain).1 (inl (record { text = text; written = written; layer = first.layer; on = first.there; first = first.first; path = refl; name = refl; at = refl })) in
      let entry = unmapped label_of labels plain (subst (λ (ls : List PlainLabel). Contains ls plain) (sym nets.each) in_flat) in
      let anchor : Anchor = record { layer = index; at = at } in
      let same : anchor_of entry.0 ≡ anchor = ap (λ (l : PlainLabel). let made : Anchor = record { layer = l.layer; at = l.at } in made) entry.2 in
      let bound = anchored_binds tech s flat d outer are inside net anchor anchored in (
        bound.0,
        record {
          label = entry.0;
          listed = entry.1;
          of = record {
            path = ap (λ (l : PlainLabel). in_lower_case l.path) entry.2 ∙ sym path;
            name = ap (λ (l : PlainLabel). in_lower_case l.name) entry.2 ∙ (top_low s.plan k.build net top ∙ sym name);
          };
          binds = subst (λ (a : Anchor). Binds flat.shapes a bound.0) (sym same) bound.1;
        },
      )

  -- the trunk of a signal
  signal_trunk : (net : Net) (signal : IsSignal s.plan net) → (y : ℤ) × IsTrunkAt (IsMainChannel s.plan s.kit s.wire s.floorplan) s.wire s.tracks.main signal.number y
  signal_trunk net signal =
      let named = signal_named s.plan net signal in
      let lt = place_below (main_nets s.plan) signal.number net named in
      let count = k.main.routed.meant.nets in
      let each = k.main.routed.nets.each in
      let long = k.main.routed.lowest.each in
      let interval = item_there k.main.intervals signal.number (omega (arith, lt, count, each)) in
      let t = item_there k.main.track signal.number (omega (arith, lt, count, each, long)) in
      (track_y k.main.channel.low s.wire t.0, record { channel = k.main.channel; intervals = k.main.intervals; track = k.main.track; routed = k.main.routed; interval = interval.0; on = t.0; has = record { there = interval.1; on = t.1 }; at = refl })

  -- Each port of the macro has one that binds a shape.
  pub macro_bound : (net : Net) (row : RowPin) → IsRowOfMacro s.plan s.kit.cell s.bits rows net row → (shape : Shape) × BindsFor flat.shapes labels row shape
  macro_bound net row r = by (port_net s.plan r.place net r.on) where
    top : IsTopNet s.plan net
    top = port_net_top s.plan net (port_net s.plan r.place net r.on)

    of_supply : (supply : Net) → supply ≡ net → row.pin ≡ net_name s.plan supply
    of_supply supply e = r.is.row_name ∙ ap (net_name s.plan) (sym e)

    by : IsPortNet s.plan net → (shape : Shape) × BindsFor flat.shapes labels row shape
    by (inl signal) =
        let trunk = signal_trunk net signal in
        written_bound net row (slice_index s.wire.metals 2) (record { x = pos 0; y = trunk.0 }) top r.is.row_path r.is.row_name texts.third
        (inl (record { number = signal.number; net = net; port = signal.listed; y = trunk.0; trunk = trunk.1; text = record { layer = refl; text_is = refl; x_is = refl; y_is = refl } }))
        (signal_anchored tech s flat d outer are inside net signal trunk.0 trunk.1 (record { layer = slice_index s.wire.metals 2; at = record { x = pos 0; y = trunk.0 } }) refl refl refl)
    by (inr (inl power)) =
        let at : Point = record { x = trunk_x s.plan s.kit s.wire s.floorplan; y = pos 0 } in
        written_bound Vdd row (slice_index s.wire.metals 1) at (power_top s.plan) r.is.row_path (of_supply Vdd power) texts.second
        (inr (inl (record { layer = refl; text_is = refl; x_is = refl; y_is = refl }))) (power_anchored tech s flat d outer are inside (record { layer = slice_index s.wire.metals 1; at = at }) refl refl refl)
    by (inr (inr ground)) =
        let at : Point = record { x = ground_x s.plan s.kit s.wire s.floorplan; y = pos 0 } in
        written_bound Gnd row (slice_index s.wire.metals 1) at (ground_top s.plan) r.is.row_path (of_supply Gnd ground) texts.second
        (inr (inr (record { layer = refl; text_is = refl; x_is = refl; y_is = refl }))) (ground_anchored tech s flat d outer are inside (record { layer = slice_index s.wire.metals 1; at = at }) refl refl refl)

  -- The hub of its net is of the net.
  pub hub_of_macro : (net : Net) (row : RowPin) → IsRowOfMacro s.plan s.kit.cell s.bits rows net row → IsOfNet tech.connects (stated_parts s) net (array_hub s (data_hub s outer) net)
  hub_of_macro net row r = by (port_net s.plan r.place net r.on) where
    by : IsPortNet s.plan net → IsOfNet tech.connects (stated_parts s) net (array_hub s (data_hub s outer) net)
    by (inl signal) = main_net_hub_of tech s flat k d.written outer are net (signal_main s.plan net signal)
    by (inr supply) = supply_hub_of tech s flat k d.written outer are net supply
