-- Labels of pins on conductors stay in a memory whose parts are seen in a small memory where they do.
use Rattle.std.proofs.Common.{◌≡◌, ◌⊎◌, inl, inr, ℕ, ◌<◌, ℤ, ◌+ℤ◌, ◌≤ℤ◌, List, Contains, Some, sym, ap, subst, ◌∙◌, arith}
use Rattle.std.specs.Prelude.{slice_get}
use Rattle.std.proofs.lemmas.Int.{by_lt_z, ints}
use Rattle.std.proofs.lemmas.Option.{slice_get-get_or}
use Rattle.or_geom.specs.declared.shape.Point.{Point}
use Rattle.or_geom.specs.declared.shape.Shape.{Shape}
use Rattle.or_geom.specs.declared.place.Place.{Place}
use Rattle.or_geom.specs.Joined.{IsIn}
use Rattle.or_geom.specs.Place.{placed}
use Rattle.cell_roles.specs.declared.role.Role.{Role}
use Rattle.cell_roles.specs.Roles.{role_ports}
use Rattle.tech_rules.specs.declared.tech.Connect.{Connect}
use Rattle.tech_rules.specs.Net.{AreOnOneNet}
use Rattle.tech_rules.specs.Touch.{IsConductor, Touch}
use Rattle.tech_rules.proofs.LinkedLaws.{linked_next}
use Rattle.element_drawing.specs.PlainLabel.{PlainLabel}
use Rattle.cell_hierarchy.specs.Plain.{FlatLists}
use Rattle.cell_hierarchy.specs.FlatSet.{IsMoved}
use Rattle.label_binding.specs.Binding.{Binds}
use Rattle.label_binding.specs.BoundPlaces.{label_anchor}
use Rattle.leaf_shapes.specs.Candidates.{IsLabelOfPin}
use Rattle.sram_netlist.specs.Nets.{Net}
use Rattle.sram_netlist.specs.Netlist.{role, ports}
use Rattle.good_places.specs.Beside.{moved_place}
use Rattle.good_places.proofs.MoveLaws.{moved_shape}
use Rattle.good_nets.specs.Parts.{IsShapeOf, IsOfNet, StandsIn}
use Rattle.good_nets.specs.Ports.{IsOnPort}
use Rattle.good_nets.proofs.CellLaws.{has_image, net_moved}
use Rattle.good_nets.proofs.MovedLaws.{point_moved}
use Rattle.good_nets.proofs.NetLaws.{net_of_itself, nets_on, net_back}
use Rattle.good_nets.proofs.PortLaws.{touches_itself}
use Rattle.good_nets.proofs.SeenLaws.{mapped_at}
use Rattle.good_nets.proofs.WindowLaws.{IsOnNet}
use Rattle.told_nets.proofs.TellLaws.{told_net}
use Rattle.joined_nets.proofs.WireNetLaws.{item_there, place_below}
use Rattle.kit_nets.specs.Bound.{BindsForPort}
use Rattle.kit_nets.specs.StatedParts.{Source, Standing, leaf_lists, stated_parts}
use Rattle.kit_nets.proofs.PartsLaws.{stands_plain, stated_are_parts}
use Rattle.seen_pairs.specs.Window.{IsSeenSource, HasSeenWindow}
use Rattle.seen_pairs.proofs.PairLaws.{right_window, near_pair, one_there}
use Rattle.seen_pairs.proofs.SeatLaws.{zone_at, shape_near, holding_zones}
use Rattle.small_wires.proofs.BankWireLaws.{unmapped_at}
use Rattle.small_wires.proofs.SeenWireLaws.{small, SeenThere}
use Rattle.small_wires.proofs.TouchLaws.{in_cover}
use Rattle.seen_wires.proofs.WireLaws.{holding_there}
use Rattle.seen_labels.specs.Stay.{IsJoinedMemory}
use Rattle.seen_labels.proofs.PointLaws.{begins_first, touch_west}
use Rattle.seen_labels.proofs.ThereLaws.{further, held_further, shape_there, under_label}
use Rattle.seen_labels.proofs.WalkLaws.{touches_instance, touches_other_wire, net_walks}

-- an item of a list has a place
item_at : {X : Type 0} (xs : List X) (x : X) → Contains xs x → (k : ℕ) × (slice_get xs k ≡ Some x)
item_at {X = X} xs x c = (c.0, slice_get-get_or xs c.0 x c.1 ∙ ap (λ (y : X). Some y) c.2)

module _ (connections : List Connect) (s : Source) (by reach : ℤ) (is : IsSeenSource connections s by reach) (window : HasSeenWindow connections s) (flat : FlatLists) (hub : Net → Shape) (memory : IsJoinedMemory connections s flat hub) where
  abbrev pub sm : Source
  sm = small connections s by reach is window

  abbrev pub OneNet : Shape → Shape → Type 0
  OneNet a b = AreOnOneNet connections flat.shapes a b

  abbrev pub Of : Net → Shape → Type 0
  Of k u = IsOfNet connections (stated_parts sm) k u

  -- what is said of a layout whose nets are right, of the window
  pub walks : (k : Net) (a b : Shape) → Of k a → AreOnOneNet connections window.flat.shapes a b → (Of k b → ⊥) → ⊥
  walks = let w = right_window connections s by reach is window in net_walks connections w.parts w.shapes w.plain w.labels w.pins w.right

  abbrev pub IsOn : Standing sm → Shape → Net → Type 0
  IsOn j y k = let w = right_window connections s by reach is window in IsOnNet connections w.parts w.shapes w.plain w.labels w.pins w.right j y k

  instance_on : (k : Net) (u : Shape) → Of k u → IsConductor connections u.layer → (j : Standing sm) (y : Shape) → IsShapeOf connections (stated_parts sm) j y u → (IsOn j y k → ⊥) → ⊥
  instance_on k u of conductor = let w = right_window connections s by reach is window in touches_instance connections w.parts w.shapes w.plain w.labels w.pins w.right k u u of (touches_itself connections u conductor)

  wire_on : (k n : Net) (u : Shape) → Of k u → IsConductor connections u.layer → (stated_parts sm).Wire n u → k ≡ n
  wire_on k n u of conductor = let w = right_window connections s by reach is window in touches_other_wire connections w.parts w.shapes w.plain w.labels w.pins w.right k n u u of (touches_itself connections u conductor)

  pub parts_there : (j : Standing sm) (y v : Shape) → IsShapeOf connections (stated_parts sm) j y v → Contains window.flat.shapes v
  parts_there = (right_window connections s by reach is window).right.parts_are.stands

  -- A label of an instance's pin, and what it binds in the cell by itself

  module _ (i : Standing s) (pin : List ℕ) (label : PlainLabel) (inner shape : Shape) (has : Contains (role_ports (role s.plan i.leaf)) pin) (listed : Contains (leaf_lists s i.leaf).labels label) (of : IsLabelOfPin pin label) (binds : Binds (leaf_lists s i.leaf).shapes (label_anchor label) inner)
      (moved : IsMoved i.place inner shape) (there : Contains flat.shapes shape) where
    pub at : (port : ℕ) × (slice_get (role_ports (role s.plan i.leaf)) port ≡ Some pin)
    at = item_at (role_ports (role s.plan i.leaf)) pin has

    pub net : (n : Net) × (slice_get (ports s.plan i.leaf) at.0 ≡ Some n)
    net = item_there (ports s.plan i.leaf) at.0 (subst (λ (k : ℕ). at.0 < k) (memory.stated.sized i.leaf i.has) (place_below (role_ports (role s.plan i.leaf)) at.0 pin at.1))

    pub bound : BindsForPort (leaf_lists s i.leaf) (role_ports (role s.plan i.leaf)) at.0 inner
    bound = record { pin = pin; there = at.1; binds = record { label = label; listed = listed; of = of; binds = binds } }

    pub to_hub : OneNet shape (hub net.0)
    to_hub = memory.ports i at.0 net.0 inner shape net.1 bound moved

    pub from_hub : OneNet (hub net.0) shape
    from_hub = net_back connections flat.shapes shape (hub net.0) there to_hub

    pub own : IsShapeOf connections (stated_parts s) i inner shape
    own = record { listed = binds.listed; moved = moved }

    abbrev pub p : Point
    p = placed i.place label.at

    pub holds : IsIn shape.rect p
    holds = point_moved i.place inner shape label.at (stands_plain s i.leaf i.place i.stands) moved binds.under.holds

    -- its stand-in in the window: what lies under the label there is of the net of the pin
    module _ (f : Net → Net) (dx dy : ℤ) (one : Standing sm) (one_is : StandsIn (stated_parts s) (stated_parts sm) f dx dy i one) (one_at : one.place ≡ moved_place dx dy i.place) (one_role : role sm.plan one.leaf ≡ role s.plan i.leaf) where
      pub net_there : (k : Net) × (slice_get (ports sm.plan one.leaf) at.0 ≡ Some k) × (f k ≡ net.0)
      net_there = unmapped_at f (ports sm.plan one.leaf) at.0 net.0 (subst (λ (ns : List Net). slice_get ns at.0 ≡ Some net.0) one_is.ports net.1)

      abbrev pub image : Shape
      image = (moved_shape dx dy shape).0

      pub image_of : IsShapeOf connections (stated_parts sm) one inner image
      image_of = let m = moved_shape dx dy shape in shape_there connections s sm f dx dy i one one_is one_at inner shape m.0 own m.1 m.2

      pub same_point : placed one.place label.at ≡ further dx dy p
      same_point = one_is.place label.at

      abbrev pub Labelled : Role → Type 0
      Labelled r = Contains (role_ports r) pin × Contains (s.lists r).labels label × Binds (s.lists r).shapes (label_anchor label) inner

      pub labelled : Labelled (role sm.plan one.leaf)
      labelled = subst Labelled (sym one_role) (has, listed, binds)

      -- in the window it is of the net of the pin
      pub image_on : Of net_there.0 image
      image_on = inl (record { i = one; inner = inner; is = image_of; port = at.0; on = record { bound = inner; is = (one_is.bound at.0 inner).0 bound; net = net_of_itself connections ((stated_parts sm).cell one) inner }; has = net_there.1 })

      under_there : IsConductor connections shape.layer → p.x ≤ℤ shape.rect.x1 → (v : Shape) → Contains window.flat.shapes v → v.layer ≡ shape.layer → IsIn v.rect (further dx dy p) → (Of net_there.0 v → ⊥) → ⊥
      under_there conductor begins v among same held =
          let m = moved_shape dx dy shape in
          walks net_there.0 image v image_on
          (under_label connections sm window.flat window.stated.stays one pin label inner image v (further dx dy p) labelled.0 labelled.1 of labelled.2 image_of.moved same_point
          (subst (IsConductor connections) (sym m.1) conductor) (parts_there one inner image image_of) (held_further dx dy shape.rect image.rect p m.2 holds) (east m.2.x1) among (same ∙ sym m.1) held)
        where
          east : image.rect.x1 ≡ shape.rect.x1 +ℤ dx → (p.x +ℤ dx) ≤ℤ image.rect.x1
          east e = omega (arith, ints, begins, e)

    -- what another instance's stand-in shows of its port is so here
    pub on_here : (f : Net → Net) (dx dy : ℤ) (j : Standing s) (other : Standing sm) → StandsIn (stated_parts s) (stated_parts sm) f dx dy j other → (k : Net) → f k ≡ net.0 → (y u : Shape) → IsShapeOf connections (stated_parts s) j y u → Contains flat.shapes u → IsOn other y k → OneNet u shape
    on_here f dx dy j other stands k named y u of_j among on =
        let in_cell : IsOnPort connections (leaf_lists s j.leaf).shapes ((stated_parts sm).Bound other) on.port y = subst (λ (xs : List Shape). IsOnPort connections xs ((stated_parts sm).Bound other) on.port y) stands.cell on.on in
        let bound_here = (stands.bound on.port in_cell.bound).1 in_cell.is in
        let here = has_image j.place in_cell.bound in
        let stated = stated_are_parts connections s flat memory.stated in
        let reaches = net_moved connections (leaf_lists s j.leaf).shapes flat.shapes j.place (stands_plain s j.leaf j.place j.stands) (λ x t at_x at_t. stated.stands j x t (record { listed = at_x; moved = at_t })) in_cell.bound y here.0 u here.1 of_j.moved in_cell.net in
        let has_net = subst (λ (ns : List Net). slice_get ns on.port ≡ Some (f k)) (sym stands.ports) (mapped_at f (ports sm.plan other.leaf) on.port k on.has) in
        let hub_there = memory.ports j on.port (f k) in_cell.bound here.0 has_net bound_here here.1 in
        let here_among = stated.stands j in_cell.bound here.0 (record { listed = bound_here.binds.binds.listed; moved = here.1 }) in
        nets_on connections flat.shapes u here.0 shape (net_back connections flat.shapes here.0 u here_among reaches)
        (nets_on connections flat.shapes here.0 (hub (f k)) shape hub_there (subst (λ (n : Net). OneNet (hub n) shape) (sym named) from_hub))

    -- A shape that lies under the label, where what it binds begins at its point
    module _ (conductor : IsConductor connections shape.layer) (begins : p.x ≤ℤ shape.rect.x1) (u : Shape) (among : Contains flat.shapes u) (same : u.layer ≡ shape.layer) (held : IsIn u.rect p) where
      seen_instance : (f : Net → Net) (dx dy : ℤ) (one : Standing sm) → StandsIn (stated_parts s) (stated_parts sm) f dx dy i one → one.place ≡ moved_place dx dy i.place → role sm.plan one.leaf ≡ role s.plan i.leaf
          → (j : Standing s) (other : Standing sm) → StandsIn (stated_parts s) (stated_parts sm) f dx dy j other → other.place ≡ moved_place dx dy j.place → (y : Shape) → IsShapeOf connections (stated_parts s) j y u → (OneNet u shape → ⊥) → ⊥
      seen_instance f dx dy one one_is one_at one_role j other other_is other_at y of_j none =
          let m = moved_shape dx dy u in
          let is_there = shape_there connections s sm f dx dy j other other_is other_at y u m.0 of_j m.1 m.2 in
          let k = net_there f dx dy one one_is one_at one_role in
          under_there f dx dy one one_is one_at one_role conductor begins m.0 (parts_there other y m.0 is_there) (m.1 ∙ same) (held_further dx dy u.rect m.0.rect p m.2 held)
          (λ of_k. instance_on k.0 m.0 of_k (subst (IsConductor connections) (sym (m.1 ∙ same)) conductor) other y is_there (λ on. none (on_here f dx dy j other other_is k.0 k.2 y u of_j among on)))

      by_instance : (j : Standing s) (y : Shape) → IsShapeOf connections (stated_parts s) j y u → (OneNet u shape → ⊥) → ⊥
      by_instance j y of_j none =
          let t = near_pair connections s by reach is window i j differ (holding_zones connections s by reach is i j inner y shape u p own of_j holds held) in
          seen_instance t.f t.dx t.dy t.one t.one_is t.one_at t.one_role j t.other t.other_is t.other_at y of_j none
        where
          differ : i.leaf ≡ j.leaf → ⊥
          differ e =
              let twins = (stated_are_parts connections s flat memory.stated).twins i j e in
              let of_i : IsShapeOf connections (stated_parts s) i y u = record { listed = subst (λ (xs : List Shape). Contains xs y) twins.cell of_j.listed; moved = subst (λ (q : Place). IsMoved q y u) twins.place of_j.moved } in
              let t = one_there connections s by reach is window i inner shape own in
              seen_instance t.f t.dx t.dy t.one t.one_is t.one_at t.one_role i t.one t.one_is t.one_at y of_i none

      by_wire : (n : Net) → (stated_parts s).Wire n u → (OneNet u shape → ⊥) → ⊥
      by_wire n wire none =
          let t : SeenThere connections s by reach is window i n u = holding_there connections s by reach is window i inner shape u n p own wire same holds held in
          let k = net_there t.f t.dx t.dy t.one t.one_is t.one_at t.one_role in
          let layer = t.covers.layer ∙ same in
          let m = moved_shape t.dx t.dy shape in
          let held_there = in_cover by t.dx t.dy (zone_at connections s by reach is i) shape m.0 u t.wire (shape_near connections s by reach is i inner shape own) (record { layer = m.1; x1 = m.2.x1; y1 = m.2.y1; x2 = m.2.x2; y2 = m.2.y2 }) t.covers p holds held in
          under_there t.f t.dx t.dy t.one t.one_is t.one_at t.one_role conductor begins t.wire ((right_window connections s by reach is window).right.parts_are.wires t.net t.wire t.is) layer held_there
          (λ of_k.
          let same_net = wire_on k.0 t.net t.wire of_k (subst (IsConductor connections) (sym layer) conductor) t.is in
          let n_is : n ≡ net.0 = sym t.named ∙ (ap t.f (sym same_net) ∙ k.2) in
          none (nets_on connections flat.shapes u (hub n) shape (memory.wires n u wire) (subst (λ (m : Net). OneNet (hub m) shape) (sym n_is) from_hub)))

      stable : OneNet u shape ⊎ (OneNet u shape → ⊥) → ((OneNet u shape → ⊥) → ⊥) → OneNet u shape
      stable (inl net) not = net
      stable (inr none) not = absurd (not none)

      -- is on its net.
      under_is_on : OneNet u shape
      under_is_on = stable (told_net connections flat.shapes u shape there conductor) (λ none. elim ((stated_are_parts connections s flat memory.stated).all u among) [
        | inl h ↦ by_instance h.0 h.1 h.2 none
        | inr w ↦ by_wire w.0 w.1 none
      ])

    -- What the label binds in the memory is on its net.
    pub label_stays : IsConductor connections shape.layer → (u : Shape) → Binds flat.shapes (record { layer = label.layer; at = p }) u → OneNet u shape
    label_stays conductor u b =
        let on : shape.layer ≡ label.layer = moved.layer ∙ binds.under.on in
        let same : u.layer ≡ shape.layer = b.under.on ∙ sym on in
        let first = begins_first flat.shapes (record { layer = label.layer; at = p }) u shape b there (record { on = on; holds = holds }) in
        by_lt_z shape.rect.x1 p.x
        (λ west. linked_next (Contains flat.shapes) (Touch connections) u shape there (touch_west connections u shape p same (subst (IsConductor connections) (sym same) conductor) b.under.holds holds (omega (arith, ints, first, west)) west))
        (λ begins. under_is_on conductor begins u b.listed same b.under.holds)
