-- Labels of pins on cuts stay, where around their points the small memory has what the memory has.
use Rattle.std.proofs.Common.{◌≡◌, inl, inr, ℕ, ℤ, pos, List, Contains, sym, ap, subst, ◌∙◌, arith}
use Rattle.std.proofs.lemmas.Int.{ints}
use Rattle.std.specs.declared.cmp.Ordering.TheVariants.{Less}
use Rattle.or_geom.specs.declared.shape.Point.{Point}
use Rattle.or_geom.specs.declared.shape.Rect.{Rect}
use Rattle.or_geom.specs.declared.shape.Shape.{Shape}
use Rattle.or_geom.specs.declared.place.Place.{Place}
use Rattle.or_geom.specs.Joined.{IsIn}
use Rattle.or_geom.specs.Place.{placed}
use Rattle.or_geom.specs.ShapeOrder.{shape_order}
use Rattle.cell_roles.specs.declared.role.Role.{Role}
use Rattle.cell_roles.specs.Roles.{role_ports}
use Rattle.tech_rules.specs.declared.tech.Connect.{Connect}
use Rattle.tech_rules.specs.Net.{AreOnOneNet}
use Rattle.tech_rules.specs.Touch.{IsConductor, IsCutTo, Touch}
use Rattle.tech_rules.proofs.LinkedLaws.{linked_next}
use Rattle.element_drawing.specs.PlainLabel.{PlainLabel}
use Rattle.cell_hierarchy.specs.Plain.{FlatLists}
use Rattle.cell_hierarchy.specs.FlatSet.{IsMoved}
use Rattle.label_binding.specs.declared.anchor.Anchor.{Anchor}
use Rattle.label_binding.specs.Binding.{IsUnder, Binds}
use Rattle.label_binding.specs.BoundPlaces.{label_anchor}
use Rattle.leaf_shapes.specs.Candidates.{IsLabelOfPin}
use Rattle.local_report.specs.Moved as shifted
use Rattle.sram_netlist.specs.Nets.{Net}
use Rattle.sram_netlist.specs.Netlist.{role}
use Rattle.good_places.specs.Leaves.{zone_of}
use Rattle.leaf_shapes.specs.Outline.{IsWireLayer}
use Rattle.good_places.proofs.LaidLaws.{in_zone}
use Rattle.good_places.proofs.MoveLaws.{moved_shape, moved_taken}
use Rattle.good_nets.specs.Parts.{IsShapeOf, IsOnPortOf}
use Rattle.good_nets.proofs.CellLaws.{has_image, moved_once}
use Rattle.good_nets.proofs.LiftLaws.{of_cut}
use Rattle.good_nets.proofs.MovedLaws.{touch_moved}
use Rattle.good_nets.proofs.NetLaws.{net_of_itself, nets_on, net_back}
use Rattle.good_wires.proofs.ClearLaws.{zone_kind}
use Rattle.told_nets.proofs.TellLaws.{told_net}
use Rattle.joined_nets.specs.Joints.{IsOnWireLayer, IsOnCutOfWire}
use Rattle.joined_nets.specs.WireNets.{IsWireOfNet}
use Rattle.joined_nets.proofs.WireNetLaws.{net_of_wire}
use Rattle.kit_nets.specs.StatedParts.{Source, Standing, leaf_lists, stated_parts}
use Rattle.kit_nets.proofs.PartsLaws.{stands_plain, stated_are_parts}
use Rattle.seen_pairs.specs.Window.{IsSeenSource, HasSeenWindow}
use Rattle.seen_pairs.proofs.PairLaws.{right_window}
use Rattle.seen_pairs.proofs.SeatLaws.{zone_at, shape_inside}
use Rattle.small_wires.proofs.SeenWireLaws.{small}
use Rattle.small_wires.proofs.WireLayerLaws.{wire_on, of_wires, stands_drawn}
use Rattle.seen_labels.specs.Stay.{IsJoinedMemory, DoShapesStayInside}
use Rattle.seen_labels.specs.Whole.{IsWholeThere}
use Rattle.seen_labels.proofs.ClearLaws.{no_cut_there}
use Rattle.seen_labels.proofs.OrderLaws.{order_moved}
use Rattle.seen_labels.proofs.ThereLaws.{further, held_further, shape_there}
use Rattle.seen_labels.proofs.WalkLaws.{touches_instance}
use Rattle.seen_labels.proofs.StayLaws as st

module _ (connections : List Connect) (s : Source) (by reach : ℤ) (is : IsSeenSource connections s by reach) (window : HasSeenWindow connections s) (flat : FlatLists) (hub : Net → Shape) (memory : IsJoinedMemory connections s flat hub) (inside : DoShapesStayInside s) (i : Standing s) (pin : List ℕ) (label : PlainLabel) (inner shape : Shape)
    (has : Contains (role_ports (role s.plan i.leaf)) pin) (listed : Contains (leaf_lists s i.leaf).labels label) (of : IsLabelOfPin pin label) (binds : Binds (leaf_lists s i.leaf).shapes (label_anchor label) inner) (moved : IsMoved i.place inner shape) (there : Contains flat.shapes shape) (none : IsConductor connections shape.layer → ⊥) where
  abbrev sm : Source
  sm = small connections s by reach is window

  abbrev OneNet : Shape → Shape → Type 0
  OneNet a b = AreOnOneNet connections flat.shapes a b

  abbrev p : Point
  p = placed i.place label.at

  holds : IsIn shape.rect p
  holds = st.holds connections s by reach is window flat hub memory i pin label inner shape has listed of binds moved there

  own : IsShapeOf connections (stated_parts s) i inner shape
  own = record { listed = binds.listed; moved = moved }

  -- A conductor of the pin touches it
  none_inner : IsConductor connections inner.layer → ⊥
  none_inner c = none (subst (IsConductor connections) (sym moved.layer) c)

  cut_to : (x : Shape) → Touch connections x inner → IsCutTo connections inner.layer x.layer
  cut_to x (inl t) = absurd (none_inner (subst (IsConductor connections) t.one_layer t.conductor))
  cut_to x (inr (inl t)) = absurd (none_inner (of_cut connections x.layer inner.layer t.connects))
  cut_to x (inr (inr t)) = t.connects

  abbrev port : ℕ
  port = (st.at connections s by reach is window flat hub memory i pin label inner shape has listed of binds moved there).0

  beside : (z : Shape) × Contains (leaf_lists s i.leaf).shapes z × IsOnPortOf connections (stated_parts s) i port z × Touch connections z inner
  beside = (stated_are_parts connections s flat memory.stated).reached i port inner binds.listed (record { bound = inner; is = st.bound connections s by reach is window flat hub memory i pin label inner shape has listed of binds moved there; net = net_of_itself connections (leaf_lists s i.leaf).shapes inner })

  is_cut : IsCutTo connections inner.layer beside.0.layer
  is_cut = cut_to beside.0 beside.3

  abbrev metal : Shape
  metal = (has_image i.place beside.0).0

  metal_moved : IsMoved i.place beside.0 metal
  metal_moved = (has_image i.place beside.0).1

  metal_listed : Contains flat.shapes metal
  metal_listed = (stated_are_parts connections s flat memory.stated).stands i beside.0 metal (record { listed = beside.1; moved = metal_moved })

  metal_conducts : IsConductor connections metal.layer
  metal_conducts = subst (IsConductor connections) (sym metal_moved.layer) (of_cut connections inner.layer beside.0.layer is_cut)

  metal_joined : OneNet metal shape
  metal_joined = linked_next (Contains flat.shapes) (Touch connections) metal shape there ((touch_moved connections i.place beside.0 inner metal shape (stands_plain s i.leaf i.place i.stands) metal_moved moved).0 beside.3)

  -- what can't fail to be on one net with it is
  stable : (u : Shape) → Contains flat.shapes u → ((OneNet u shape → ⊥) → ⊥) → OneNet u shape
  stable u among not = elim (told_net connections flat.shapes u metal metal_listed metal_conducts) [
    | inl net ↦ nets_on connections flat.shapes u metal shape net metal_joined
    | inr apart ↦ absurd (not (λ net. apart (nets_on connections flat.shapes u shape metal net (net_back connections flat.shapes metal shape metal_listed metal_joined))))
  ]

  -- Wires on its layer are cuts, which keep away

  wire_cut : (t : Shape) → IsOnWireLayer s.wire t → t.layer ≡ shape.layer → IsOnCutOfWire s.wire t
  wire_cut t (inl on) same = absurd (is.only.no_metal on.place beside.0.layer on.below (subst (λ (k : ℕ). IsCutTo connections k beside.0.layer) (sym moved.layer ∙ (sym same ∙ on.on)) is_cut))
  wire_cut t (inr on) same = on

  clear_here : (n : Net) (t : Shape) → (stated_parts s).Wire n t → t.layer ≡ shape.layer → IsIn t.rect p → ⊥
  clear_here n t stands same in_t =
      let Of : Shape → Type 0 = λ u. IsWireOfNet s.plan s.kit s.wire s.tracks s.floorplan n u in
      let drawn = stands_drawn s.layers s.wire is.first Of t (λ u d. wire_on s.plan s.kit s.wire s.tracks s.floorplan n u d) stands in
      let on = wire_on s.plan s.kit s.wire s.tracks s.floorplan n t drawn in
      let c = wire_cut t on same in
      let lies = shape_inside connections s by reach is i inner shape own (subst (IsWireLayer s.wire) same (of_wires s.layers s.wire is.first t on)) in
      no_cut_there s.plan s.kit s.wire s.tracks s.floorplan is.source.drawn (zone_at connections s by reach is i) (zone_kind s.plan s.kit s.wire s.tracks s.floorplan is.source.drawn i.leaf i.place i.has i.stands) shape.rect p lies holds c.place c.below t c.on
      (net_of_wire s.plan s.kit s.wire s.tracks s.floorplan n t drawn) in_t

  -- Around its point the small memory has what the memory has

  module _ (w : IsWholeThere connections s sm i p) where
    abbrev p2 : Point
    p2 = further w.dx w.dy p

    abbrev image : Shape
    image = (moved_shape w.dx w.dy shape).0

    image_of : IsShapeOf connections (stated_parts sm) w.one inner image
    image_of = st.image_of connections s by reach is window flat hub memory i pin label inner shape has listed of binds moved there w.f w.dx w.dy w.one w.one_is w.one_at w.one_role

    image_same : image.layer ≡ shape.layer
    image_same = (moved_shape w.dx w.dy shape).1

    image_shift : shifted.IsMovedBy w.dx w.dy shape.rect image.rect
    image_shift = (moved_shape w.dx w.dy shape).2

    parts_there : (j : Standing sm) (y v : Shape) → IsShapeOf connections (stated_parts sm) j y v → Contains window.flat.shapes v
    parts_there = st.parts_there connections s by reach is window flat hub memory

    clear_there : (n : Net) (t : Shape) → (stated_parts sm).Wire n t → t.layer ≡ shape.layer → IsIn t.rect p2 → ⊥
    clear_there n t stands same in_t =
        let Of : Shape → Type 0 = λ u. IsWireOfNet sm.plan s.kit s.wire window.tracks window.floorplan n u in
        let drawn = stands_drawn s.layers s.wire is.first Of t (λ u d. wire_on sm.plan s.kit s.wire window.tracks window.floorplan n u d) stands in
        let on = wire_on sm.plan s.kit s.wire window.tracks window.floorplan n t drawn in
        let c = wire_cut t on same in
        let wires = subst (IsWireLayer s.wire) (same ∙ moved.layer) (of_wires s.layers s.wire is.first t on) in
        let lies = in_zone sm.plan s.kit s.wire window.floorplan (pos 0) window.source.drawn.laid w.one.leaf w.one.place inner image w.one.has w.one.stands (inside sm.plan w.one.leaf inner w.one.has image_of.listed wires) image_of.moved in
        no_cut_there sm.plan s.kit s.wire window.tracks window.floorplan window.source.drawn (zone_of sm.plan s.kit window.floorplan w.one.leaf w.one.place) (zone_kind sm.plan s.kit s.wire window.tracks window.floorplan window.source.drawn w.one.leaf w.one.place w.one.has w.one.stands)
        image.rect p2 lies (held_further w.dx w.dy shape.rect image.rect p image_shift holds) c.place c.below t c.on (net_of_wire sm.plan s.kit s.wire window.tracks window.floorplan n t drawn) in_t

    module _ (u : Shape) (b : Binds flat.shapes (record { layer = label.layer; at = p }) u) (j : Standing s) (y : Shape) (of_j : IsShapeOf connections (stated_parts s) j y u) where
      same : u.layer ≡ shape.layer
      same = b.under.on ∙ sym (moved.layer ∙ binds.under.on)

      m : (v : Shape) × (v.layer ≡ u.layer) × shifted.IsMovedBy w.dx w.dy u.rect v.rect
      m = moved_shape w.dx w.dy u

      abbrev with_j : Standing sm
      with_j = (w.forth j y u of_j b.under.holds).other

      there_j : IsShapeOf connections (stated_parts sm) with_j y m.0
      there_j = let h = w.forth j y u of_j b.under.holds in shape_there connections s sm w.f w.dx w.dy j h.other h.is h.at y u m.0 of_j m.1 m.2

      abbrev anchor : Anchor
      anchor = record { layer = label.layer; at = p2 }

      under_m : IsUnder anchor m.0
      under_m = record { on = m.1 ∙ b.under.on; holds = held_further w.dx w.dy u.rect m.0.rect p m.2 b.under.holds }

      -- what lies under the label there lies under it here
      not_before : (k : Standing sm) (y2 v : Shape) → IsShapeOf connections (stated_parts sm) k y2 v → v.layer ≡ label.layer → IsIn v.rect p2 → shape_order v m.0 ≡ Less → ⊥
      not_before k y2 v of_k on in_v less =
          let h = w.back k y2 v of_k in_v in
          let t = has_image h.here.place y2 in
          let n = moved_shape w.dx w.dy t.0 in
          let here : IsShapeOf connections (stated_parts s) h.here y2 t.0 = record { listed = subst (λ (r : Role). Contains (s.lists r).shapes y2) (sym h.same_role) of_k.listed; moved = t.1 } in
          let same_place = subst (λ (q : Place). IsMoved q y2 n.0) (sym h.at) (moved_taken w.dx w.dy h.here.place y2 t.0 n.0 t.1 n.1 n.2) in
          let is_n : v ≡ n.0 = moved_once k.place y2 v n.0 of_k.moved same_place in
          let on_t : t.0.layer ≡ label.layer = sym n.1 ∙ (sym (ap (λ (x : Shape). x.layer) is_n) ∙ on) in
          let in_n = subst (λ (x : Shape). IsIn x.rect p2) is_n in_v in
          b.first t.0 ((stated_are_parts connections s flat memory.stated).stands h.here y2 t.0 here) (record { on = on_t; holds = back_in t.0.rect n.0.rect n.2 in_n })
          (sym (order_moved w.dx w.dy t.0 u n.0 m.0 n.1 m.1 n.2 m.2) ∙ subst (λ (x : Shape). shape_order x m.0 ≡ Less) is_n less)
        where
          back_in : (r q : Rect) → shifted.IsMovedBy w.dx w.dy r q → IsIn q p2 → IsIn r p
          back_in r q at in_q = record {
            left = let e = at.x1 in let l = in_q.left in omega (arith, ints, e, l);
            right = let e = at.x2 in let l = in_q.right in omega (arith, ints, e, l);
            low = let e = at.y1 in let l = in_q.low in omega (arith, ints, e, l);
            high = let e = at.y2 in let l = in_q.high in omega (arith, ints, e, l);
          }

      bound_there : Binds window.flat.shapes anchor m.0
      bound_there = record {
        listed = parts_there with_j y m.0 there_j;
        under = under_m;
        first = λ v among under less. elim ((right_window connections s by reach is window).right.parts_are.all v among) [
          | inl h ↦ not_before h.0 h.1 v h.2 under.on under.holds less
          | inr wire ↦ clear_there wire.0 v wire.1 (under.on ∙ sym (moved.layer ∙ binds.under.on)) under.holds
        ];
      }

      abbrev k : Net
      k = (st.net_there connections s by reach is window flat hub memory i pin label inner shape has listed of binds moved there w.f w.dx w.dy w.one w.one_is w.one_at w.one_role).0

      joined_there : AreOnOneNet connections window.flat.shapes image m.0
      joined_there =
          let lab = st.labelled connections s by reach is window flat hub memory i pin label inner shape has listed of binds moved there w.f w.dx w.dy w.one w.one_is w.one_at w.one_role in
          let at = st.same_point connections s by reach is window flat hub memory i pin label inner shape has listed of binds moved there w.f w.dx w.dy w.one w.one_is w.one_at w.one_role in
          net_back connections window.flat.shapes m.0 image (parts_there with_j y m.0 there_j)
          (window.stated.stays w.one pin label inner image m.0 lab.0 lab.1 of lab.2 image_of.moved (parts_there w.one inner image image_of) (subst (λ (q : Point). Binds window.flat.shapes (record { layer = label.layer; at = q }) m.0) (sym at) bound_there))

      -- so it is on the net of the pin, as the window shows
      on_net : (OneNet u shape → ⊥) → ⊥
      on_net bad =
          st.walks connections s by reach is window flat hub memory k image m.0 (st.image_on connections s by reach is window flat hub memory i pin label inner shape has listed of binds moved there w.f w.dx w.dy w.one w.one_is w.one_at w.one_role) joined_there (λ of_k. elim of_k [
            | inl o ↦
                let win = right_window connections s by reach is window in
                let r = win.right.parts_are.reached o.i o.port o.inner o.is.listed o.on in
                let zs = has_image o.i.place r.0 in
                let touch = (touch_moved connections o.i.place r.0 o.inner zs.0 m.0 (win.right.parts_are.plain o.i) zs.1 o.is.moved).0 r.3 in
                let h = w.forth j y u of_j b.under.holds in
                touches_instance connections win.parts win.shapes win.plain win.labels win.pins win.right k zs.0 m.0 (inl (record { i = o.i; inner = r.0; is = record { listed = r.1; moved = zs.1 }; port = o.port; on = r.2; has = o.has })) touch with_j y there_j
                (λ on. bad (st.on_here connections s by reach is window flat hub memory i pin label inner shape has listed of binds moved there w.f w.dx w.dy j h.other h.is k
                (st.net_there connections s by reach is window flat hub memory i pin label inner shape has listed of binds moved there w.f w.dx w.dy w.one w.one_is w.one_at w.one_role).2 y u of_j b.listed on))
            | inr wire ↦ clear_there k m.0 wire (m.1 ∙ same) under_m.holds
          ])

    -- What the label binds in the memory is on its net.
    pub cut_label_stays : (u : Shape) → Binds flat.shapes (record { layer = label.layer; at = p }) u → OneNet u shape
    cut_label_stays u b = stable u b.listed (λ bad. elim ((stated_are_parts connections s flat memory.stated).all u b.listed) [
      | inl h ↦ on_net u b h.0 h.1 h.2 bad
      | inr wire ↦ clear_here wire.0 u wire.1 (b.under.on ∙ sym (moved.layer ∙ binds.under.on)) b.under.holds
    ])
