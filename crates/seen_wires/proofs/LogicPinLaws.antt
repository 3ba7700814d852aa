-- Wires of the main channel beside a cell of the logic row are seen in the small memory.
use Rattle.std.proofs.Common.{◌≡◌, ◌⊎◌, inl, inr, ◌∙◌, ℕ, ◌+◌, ◌≤◌, ℤ, pos, ◌+ℤ◌, ◌-ℤ◌, ◌*ℤ◌, ◌≤ℤ◌, ◌<ℤ◌, List, ◌∷◌, Some, refl, sym, ap, subst, arith}
use Rattle.std.specs.Prelude.{slice_get, slice_index}
use Rattle.std.specs.Int.{int_max}
use Rattle.std.proofs.lemmas.Int.{ints, clamps}
use Rattle.std.proofs.lemmas.Option.{same_Some}
use Rattle.or_geom.specs.declared.shape.Rect.{Rect}
use Rattle.or_geom.specs.declared.shape.Shape.{Shape}
use Rattle.or_geom.specs.declared.place.Place.{Place}
use Rattle.or_geom.specs.Place.{placed, IsImage}
use Rattle.cell_roles.specs.declared.role.Role.{Role}
use Rattle.cell_roles.specs.declared.role.Role.TheVariants.{Inv, Dff}
use Rattle.tech_rules.specs.declared.tech.Connect.{Connect}
use Rattle.wire_drawing.specs.Drawing.{IsBox, pitch}
use Rattle.sram_netlist.specs.Organization.{banks_of}
use Rattle.sram_netlist.specs.Nets.{Net, Vdd, Gnd}
use Rattle.sram_netlist.specs.Instances.{LogicCell, LeafInstance, LogicAt}
use Rattle.sram_netlist.specs.InstanceList.{logic_cells}
use Rattle.sram_netlist.specs.Membership.{HasLeafInstance}
use Rattle.sram_netlist.specs.Netlist.{role, ports, logic_role}
use Rattle.macro_layout.specs.Places.{Floorplan, IsPlaceOf, total_width}
use Rattle.macro_layout.specs.Pins.{IsPin, main_nets}
use Rattle.macro_layout.specs.Channels.{IsMainChannel, IsPinFrom}
use Rattle.macro_layout.specs.Wires.{trunk_x, ground_x}
use Rattle.local_report.specs.Moved as moved
use Rattle.local_report.proofs.MovedLaws.{moved_rect}
use Rattle.good_places.specs.Beside.{moved_place}
use Rattle.good_places.specs.Leaves.{Zone, AreNearZones, zone_of}
use Rattle.good_places.proofs.MoveLaws.{moved_image}
use Rattle.good_places.proofs.RowLaws.{total_split}
use Rattle.good_wires.proofs.PinLaws.{upright_left, logic_upright}
use Rattle.small_wires.proofs.ColumnNetLaws.{HasNumber}
use Rattle.joined_nets.specs.WireNets.{IsChannelWireOf}
use Rattle.joined_nets.proofs.WireNetLaws.{place_below}
use Rattle.kit_nets.specs.StatedParts.{Source, Standing}
use Rattle.kit_nets.proofs.ChannelDrawnLaws.{box_there}
use Rattle.kit_nets.proofs.StandInLaws.{logic_same_role, logic_stands_in}
use Rattle.moved_nets.specs.Moved.{Moves, logic_net}
use Rattle.moved_nets.proofs.LogicLaws.{logic_moves}
use Rattle.small_rows.specs.Row.{IsCellThere, AreCellsSeen}
use Rattle.small_wires.specs.Seen.{IsNearZone, CoversThere}
use Rattle.seen_pairs.specs.Window.{IsSeenSource, HasSeenWindow}
use Rattle.small_wires.proofs.AnchorLaws.{little}
use Rattle.seen_pairs.proofs.BankPairLaws.{akin}
use Rattle.small_wires.proofs.BankWireLaws.{unmapped_at}
use Rattle.small_wires.proofs.BranchLaws.{IsBottomBox, bottom_there}
use Rattle.small_wires.proofs.FarLaws.{wide_wire, wide_space, logic_level, above_zone}
use Rattle.seen_pairs.proofs.PairLaws.{x_of, cell_at, cell_place, cell_zone_is, least, cell_dx, cell_standing, cell_role, row_moved, row_moved_too, row_seen, stands_moved}
use Rattle.seen_pairs.proofs.SeatLaws.{zone_at}
use Rattle.small_wires.proofs.SeenWireLaws.{small, SeenThere, WireThere, stands_there}
use Rattle.small_wires.proofs.SignalLaws.{IsSignal, main_signal, signal_number, signal_back}

module _ (connections : List Connect) (s : Source) (by reach : ℤ) (is : IsSeenSource connections s by reach) (window : HasSeenWindow connections s) (i : Standing s) (c : LogicCell) (ei : i.leaf ≡ LogicAt c) where
  abbrev f : Floorplan
  f = s.floorplan

  abbrev g : Floorplan
  g = window.floorplan

  abbrev S : ℤ
  S = s.wire.space

  abbrev W : ℤ
  W = s.wire.width

  abbrev sm : Source
  sm = small connections s by reach is window

  abbrev z : Zone
  z = zone_at connections s by reach is i

  abbrev x : ℕ
  x = x_of connections s by reach is window i c ei

  abbrev width : ℕ
  width = s.kit.width (logic_role s.plan c)

  place_x : i.place.at.x ≡ f.logic_x +ℤ pos x
  place_x = ap (λ (p : Place). p.at.x) (cell_place connections s by reach is window i c ei)

  zone_is : z ≡ zone_of s.plan s.kit f (LogicAt c) i.place
  zone_is = cell_zone_is connections s by reach is window i c ei

  left_is : z.left ≡ f.logic_x +ℤ pos x
  left_is = ap (λ (y : Zone). y.left) zone_is ∙ place_x

  right_is : z.right ≡ (f.logic_x +ℤ pos x) +ℤ pos width
  right_is = ap (λ (y : Zone). y.right) zone_is ∙ ap (λ (v : ℤ). v +ℤ pos width) place_x

  low_is : z.low ≡ pos 0
  low_is = ap (λ (y : Zone). y.low) zone_is

  high_is : z.high ≡ pos (s.kit.height Inv)
  high_is = ap (λ (y : Zone). y.high) zone_is

  pub near_itself : AreNearZones reach z z
  near_itself =
      let l = left_is in
      let r = right_is in
      let o = low_is in
      let h = high_is in
      let some = is.short.some in
      record { left = go z.left z.right (f.logic_x +ℤ pos x) width l r some; right = go z.left z.right (f.logic_x +ℤ pos x) width l r some; low = og z.low z.high (s.kit.height Inv) o h some; high = og z.low z.high (s.kit.height Inv) o h some }
    where
      go : (a d v : ℤ) (w : ℕ) → a ≡ v → d ≡ v +ℤ pos w → pos 1 ≤ℤ reach → a <ℤ (d +ℤ reach)
      go a d v w h1 h2 h3 = omega (arith, ints, h1, h2, h3)

      og : (a d : ℤ) (h : ℕ) → a ≡ pos 0 → d ≡ pos h → pos 1 ≤ℤ reach → a <ℤ (d +ℤ reach)
      og a d h h1 h2 h3 = omega (arith, ints, h1, h2, h3)

  -- what is far
  pub above : (t : Shape) → IsNearZone S z t.rect → f.write_y ≤ℤ t.rect.y1 → ⊥
  above t near le = above_zone connections s by reach is z t.rect near (let a = logic_level connections s by reach is in let e = high_is in omega (arith, ints, a, e, le))

  pub over : (t : Shape) → IsNearZone S z t.rect → (pos (s.kit.height Inv) +ℤ S) ≤ℤ t.rect.y1 → ⊥
  over t near le = above_zone connections s by reach is z t.rect near (let e = high_is in omega (arith, ints, e, le))

  ends_here : x + width ≤ total_width s.plan s.kit (logic_cells s.plan)
  ends_here =
      let a = cell_at connections s by reach is window i c ei in
      let e = ap (total_width s.plan s.kit) a.row ∙ total_split s.plan s.kit a.before (c ∷ a.after) in
      let h = a.at in
      omega (arith, e, h)

  pub behind : (t : Shape) → IsNearZone S z t.rect → trunk_x s.plan s.kit s.wire f ≤ℤ t.rect.x1 → ⊥
  behind t near le = go (pos (banks_of s.plan) *ℤ f.bank_width) f.logic_x (total_width s.plan s.kit (logic_cells s.plan)) x width S z.right t.rect.x1 right_is ends_here le near.right where
    go : (banks l : ℤ) (all x w : ℕ) (sp r t : ℤ) → r ≡ (l +ℤ pos x) +ℤ pos w → x + w ≤ all → (int_max banks (l +ℤ pos all) +ℤ sp) ≤ℤ t → t <ℤ (r +ℤ sp) → ⊥
    go banks l all x w sp r t h1 h2 h3 h4 = omega (arith, ints, clamps, h1, h2, h3, h4)

  -- the row begins at one place
  same_begin : g.logic_x ≡ f.logic_x
  same_begin = window.source.drawn.stands.logic_x ∙ sym is.source.drawn.stands.logic_x

  -- the stand-in, so far right, and what it is seen by
  module _ (v : Moves) (x2 : ℕ) (dx : ℤ) (far : (f.logic_x +ℤ pos x) +ℤ dx ≡ g.logic_x +ℤ pos x2) (there : IsCellThere sm.plan s.kit (least connections s by reach is window) v c x x2) where
    seen_by : (n net : Net) (t u : Shape) → logic_net v net ≡ n → WireThere connections s by reach is window net u → CoversThere by dx (pos 0) z t u → SeenThere connections s by reach is window i n t
    seen_by n net t u named is_wire covers =
        let st = cell_standing connections s by reach is window i c ei v x2 dx far there in
        record {
          f = logic_net v;
          dx = dx;
          dy = pos 0;
          one = st.0;
          one_is = logic_stands_in s sm (akin connections s by reach is window) v dx (pos 0) i st.0 there.one st.1 there.as_mask (ei ∙ ap LogicAt there.is) (stands_moved connections s by reach is window i st.0 dx st.2);
          one_at = st.2;
          one_role = cell_role connections s by reach is window i c ei v x2 dx far there;
          net = net;
          named = named;
          wire = u;
          is = stands_there connections s by reach is window net u is_wire;
          covers = covers;
        }

    same_width : width ≡ s.kit.width (logic_role sm.plan there.one)
    same_width = ap (λ (l : LogicCell). s.kit.width (role s.plan (LogicAt l))) there.is ∙ ap s.kit.width (logic_same_role s.plan sm.plan v there.one (akin connections s by reach is window).plans)

    ends_there : x2 + width ≤ total_width sm.plan s.kit (logic_cells sm.plan)
    ends_there =
        let e = ap (total_width sm.plan s.kit) there.at.row ∙ total_split sm.plan s.kit there.at.before (there.one ∷ there.at.after) in
        let h = there.at.at in
        let w = same_width in
        omega (arith, e, h, w)

    -- a bar along the row
    abbrev trunk_there : ℤ
    trunk_there = trunk_x sm.plan s.kit s.wire g

    trunk_behind : ((z.right +ℤ dx) +ℤ by) ≤ℤ trunk_there
    trunk_behind = go (pos (banks_of s.plan) *ℤ g.bank_width) f.logic_x g.logic_x (total_width sm.plan s.kit (logic_cells sm.plan)) x x2 width S z.right dx right_is far ends_there is.space where
      go : (banks l lg : ℤ) (all x x2 w : ℕ) (sp r d : ℤ) → r ≡ (l +ℤ pos x) +ℤ pos w → (l +ℤ pos x) +ℤ d ≡ lg +ℤ pos x2 → x2 + w ≤ all → by ≤ℤ sp → ((r +ℤ d) +ℤ by) ≤ℤ (int_max banks (lg +ℤ pos all) +ℤ sp)
      go banks l lg all x x2 w sp r d h1 h2 h3 h4 = omega (arith, ints, clamps, h1, h2, h3, h4)

    begin_before : g.logic_x ≤ℤ trunk_there
    begin_before = go (pos (banks_of s.plan) *ℤ g.bank_width) g.logic_x (total_width sm.plan s.kit (logic_cells sm.plan)) S (wide_space connections s by reach is) where
      go : (banks l : ℤ) (all : ℕ) (sp : ℤ) → pos 1 ≤ℤ sp → l ≤ℤ (int_max banks (l +ℤ pos all) +ℤ sp)
      go banks l all sp h = omega (arith, ints, clamps, h)

    record IsBarThere (y more : ℤ) (u : Shape) : Type 0 where
      box : IsBox (slice_index s.wire.metals 0) g.logic_x y ((trunk_there +ℤ more) +ℤ W) (y +ℤ W) u

    bar_there : (y more : ℤ) → pos 0 ≤ℤ more → (u : Shape) × IsBarThere y more u
    bar_there y more some =
        let box = box_there (slice_index s.wire.metals 0) g.logic_x y ((trunk_there +ℤ more) +ℤ W) (y +ℤ W) (wide g.logic_x trunk_there more W begin_before some (wide_wire connections s by reach is)) (tall y W (wide_wire connections s by reach is)) in
        (box.0, record { box = box.1 })
      where
        wide : (l tr m w : ℤ) → l ≤ℤ tr → pos 0 ≤ℤ m → pos 1 ≤ℤ w → l <ℤ ((tr +ℤ m) +ℤ w)
        wide l tr m w h1 h2 h3 = omega (arith, ints, h1, h2, h3)

        tall : (y w : ℤ) → pos 1 ≤ℤ w → y <ℤ (y +ℤ w)
        tall y w h = omega (arith, ints, h)

    bar_covers : (y trunk more : ℤ) (t u : Shape) → pos 0 ≤ℤ more → IsBox (slice_index s.wire.metals 0) f.logic_x y (trunk +ℤ W) (y +ℤ W) t → IsBarThere y more u → CoversThere by dx (pos 0) z t u
    bar_covers y trunk more t u some box bar =
        let o = bar.box in
        record {
          layer = o.on ∙ sym box.on;
          left = left there.left;
          right = inr (right (z.right +ℤ dx) trunk_there more W u.rect.x2 trunk_behind some (wide_wire connections s by reach is) o.right);
          low = inl (low y t.rect.y1 u.rect.y1 box.low o.low);
          high = inl (high y W t.rect.y2 u.rect.y2 box.high o.high);
        }
      where
        left : (x2 ≡ x) ⊎ (s.kit.width Dff ≤ x2) → (u.rect.x1 ≤ℤ (t.rect.x1 +ℤ dx)) ⊎ ((u.rect.x1 +ℤ by) ≤ℤ (z.left +ℤ dx))
        left (inl same) = inl (go f.logic_x g.logic_x dx t.rect.x1 u.rect.x1 x x2 same same_begin far box.left bar.box.left) where
          go : (l lg d a u : ℤ) (x x2 : ℕ) → x2 ≡ x → lg ≡ l → (l +ℤ pos x) +ℤ d ≡ lg +ℤ pos x2 → a ≡ l → u ≡ lg → u ≤ℤ (a +ℤ d)
          go l lg d a u x x2 h1 h2 h3 h4 h5 = omega (arith, ints, h1, h2, h3, h4, h5)
        left (inr more) = inr (go f.logic_x g.logic_x dx z.left u.rect.x1 x x2 (s.kit.width Dff) more left_is far bar.box.left is.short.dff (little connections s by reach is window)) where
          go : (l lg d a u : ℤ) (x x2 w : ℕ) → w ≤ x2 → a ≡ l +ℤ pos x → (l +ℤ pos x) +ℤ d ≡ lg +ℤ pos x2 → u ≡ lg → reach ≤ℤ pos w → (by +ℤ pos 1) ≤ℤ reach → (u +ℤ by) ≤ℤ (a +ℤ d)
          go l lg d a u x x2 w h1 h2 h3 h4 h5 h6 = omega (arith, ints, h1, h2, h3, h4, h5, h6)

        right : (r tr m w x2 : ℤ) → (r +ℤ by) ≤ℤ tr → pos 0 ≤ℤ m → pos 1 ≤ℤ w → x2 ≡ (tr +ℤ m) +ℤ w → (r +ℤ by) ≤ℤ x2
        right r tr m w x2 h1 h2 h3 h4 = omega (arith, ints, h1, h2, h3, h4)

        low : (y a u : ℤ) → a ≡ y → u ≡ y → u ≤ℤ (a +ℤ pos 0)
        low y a u h1 h2 = omega (arith, ints, h1, h2)

        high : (y w a u : ℤ) → a ≡ y +ℤ w → u ≡ y +ℤ w → (a +ℤ pos 0) ≤ℤ u
        high y w a u h1 h2 = omega (arith, ints, h1, h2)

    pub power_seen : (y : ℤ) (t : Shape) → y ≡ pos (s.kit.height Inv) -ℤ W → IsBox (slice_index s.wire.metals 0) f.logic_x y (trunk_x s.plan s.kit s.wire f +ℤ W) (y +ℤ W) t → SeenThere connections s by reach is window i Vdd t
    power_seen y t at box =
        let u = bar_there y (pos 0) (omega (arith, ints)) in
        seen_by Vdd Vdd t u.0 refl (inl (inr (inl (refl, inr (g.logic_x, y, inl (refl, at), inl (subst (λ (w : ℤ). IsBox (slice_index s.wire.metals 0) g.logic_x y (w +ℤ W) (y +ℤ W) u.0) (nothing trunk_there) u.1.box))))))
        (bar_covers y (trunk_x s.plan s.kit s.wire f) (pos 0) t u.0 (omega (arith, ints)) box u.1)
      where
        nothing : (a : ℤ) → a +ℤ pos 0 ≡ a
        nothing a = omega (arith, ints)

    pub ground_seen : (y : ℤ) (t : Shape) → y ≡ pos 0 → IsBox (slice_index s.wire.metals 0) f.logic_x y (ground_x s.plan s.kit s.wire f +ℤ W) (y +ℤ W) t → SeenThere connections s by reach is window i Gnd t
    ground_seen y t at box =
        let u = bar_there y (pitch s.wire) some in
        seen_by Gnd Gnd t u.0 refl (inl (inr (inr (refl, inr (g.logic_x, y, inl (refl, at), inl u.1.box))))) (bar_covers y (ground_x s.plan s.kit s.wire f) (pitch s.wire) t u.0 some box u.1)
      where
        some : pos 0 ≤ℤ pitch s.wire
        some = let a = wide_wire connections s by reach is in let e = wide_space connections s by reach is in omega (arith, ints, a, e)

  -- A branch above a cell of the row

  module _ (n : Net) (t : Shape) (w : IsChannelWireOf (IsMainChannel s.plan s.kit s.wire f) s.wire s.tracks.main (main_nets s.plan) n t) (bx : IsBottomBox (IsMainChannel s.plan s.kit s.wire f) s.wire s.tracks.main (main_nets s.plan) n t w) (near : IsNearZone reach z t.rect) where
    meets : (net : Net) × (slice_get (main_nets s.plan) w.number ≡ Some net) × ((d : LogicCell) × (port : ℕ) × IsPinFrom s.plan s.kit f (LogicAt d) port 1 net bx.x)
    meets = (w.routed.meant.bottom w.number bx.x).0 bx.pin

    abbrev d : LogicCell
    d = meets.2.0

    abbrev port : ℕ
    port = meets.2.1

    abbrev rect : Rect
    rect = meets.2.2.rect

    abbrev pin : IsPin s.plan s.kit f (LogicAt d) port 1 meets.0 rect
    pin = meets.2.2.is

    begins : bx.x ≡ rect.x1
    begins = meets.2.2.begins

    -- the cell of the pin
    abbrev j : Standing s
    j = record { leaf = LogicAt d; has = pin.has; place = pin.place; stands = pin.stands }

    pin_x : rect.x1 ≡ (s.kit.pin (role s.plan (LogicAt d)) port 1).x1 +ℤ pin.place.at.x
    pin_x =
        let at = pin.stands.at in
        let e = upright_left (f.logic_x +ℤ pos (total_width s.plan s.kit pin.stands.before)) (pos 0) (s.kit.pin (role s.plan (LogicAt d)) port 1) rect (subst (λ (p : Place). IsImage (placed p) (s.kit.pin (role s.plan (LogicAt d)) port 1) rect) at pin.image) in
        e ∙ ap (λ (v : ℤ). (s.kit.pin (role s.plan (LogicAt d)) port 1).x1 +ℤ v) (sym (ap (λ (p : Place). p.at.x) at))

    near_pin : AreNearZones reach (zone_at connections s by reach is j) z
    near_pin =
        let l = is.source.drawn.pins.left (role s.plan (LogicAt d)) port 1 in
        let r = is.source.drawn.pins.right (role s.plan (LogicAt d)) port 1 (logic_upright s.plan d) (inl refl) in
        let a = bx.box.left in
        let h = bx.box.right in
        record {
          left = left (s.kit.pin (role s.plan (LogicAt d)) port 1).x1 pin.place.at.x rect.x1 bx.x t.rect.x1 z.right l pin_x begins a near.right;
          right = right (s.kit.pin (role s.plan (LogicAt d)) port 1).x1 pin.place.at.x rect.x1 bx.x W t.rect.x2 z.left (s.kit.width (role s.plan (LogicAt d))) r pin_x begins h near.left;
          low = low z.high (s.kit.height Inv) high_is is.short.some;
          high = high z.low (s.kit.height Inv) low_is is.short.some;
        }
      where
        left : (p px r x t1 zr : ℤ) → pos 0 ≤ℤ p → r ≡ p +ℤ px → x ≡ r → t1 ≡ x → t1 <ℤ (zr +ℤ reach) → px <ℤ (zr +ℤ reach)
        left p px r x t1 zr h1 h2 h3 h4 h5 = omega (arith, ints, h1, h2, h3, h4, h5)

        right : (p px r x w t2 zl : ℤ) (wide : ℕ) → (p +ℤ w) ≤ℤ pos wide → r ≡ p +ℤ px → x ≡ r → t2 ≡ x +ℤ w → zl <ℤ (t2 +ℤ reach) → zl <ℤ ((px +ℤ pos wide) +ℤ reach)
        right p px r x w t2 zl wide h1 h2 h3 h4 h5 = omega (arith, ints, h1, h2, h3, h4, h5)

        low : (zh : ℤ) (h : ℕ) → zh ≡ pos h → pos 1 ≤ℤ reach → pos 0 <ℤ (zh +ℤ reach)
        low zh h h1 h2 = omega (arith, ints, h1, h2)

        high : (zl : ℤ) (h : ℕ) → zl ≡ pos 0 → pos 1 ≤ℤ reach → zl <ℤ (pos h +ℤ reach)
        high zl h h1 h2 = omega (arith, ints, h1, h2)

    r : AreCellsSeen sm.plan s.kit (least connections s by reach is window) c d x (x_of connections s by reach is window j d refl)
    r = row_seen connections s by reach is window i j c d ei refl near_pin

    abbrev dx : ℤ
    dx = cell_dx connections s by reach is window x r.x2

    abbrev two : LogicCell
    two = r.two.one

    stands : (j' : Standing sm) × (j'.leaf ≡ LogicAt two) × (j'.place ≡ moved_place dx (pos 0) pin.place)
    stands = cell_standing connections s by reach is window j d refl r.moves r.y2 dx (row_moved_too connections s by reach is window x (x_of connections s by reach is window j d refl) r.x2 r.y2 r.as_far) r.two

    like_two : role s.plan (LogicAt d) ≡ role sm.plan (LogicAt two)
    like_two = ap (λ (l : LogicCell). role s.plan (LogicAt l)) r.two.is ∙ logic_same_role s.plan sm.plan r.moves two (akin connections s by reach is window).plans

    moved_pin : (m : Rect) × moved.IsMovedBy dx (pos 0) rect m
    moved_pin = moved_rect dx (pos 0) rect

    net_there : (net2 : Net) × (slice_get (ports sm.plan (LogicAt two)) port ≡ Some net2) × (logic_net r.moves net2 ≡ meets.0)
    net_there = unmapped_at (logic_net r.moves) (ports sm.plan (LogicAt two)) port meets.0
        (ap (λ (ns : List Net). slice_get ns port) (sym (ap (λ (l : LogicCell). ports s.plan (LogicAt l)) r.two.is ∙ logic_moves s.plan sm.plan r.moves two (akin connections s by reach is window).plans r.two.as_mask)) ∙ pin.on)

    has_two : HasLeafInstance sm.plan (LogicAt two)
    has_two = subst (HasLeafInstance sm.plan) stands.1 stands.0.has

    pin_there : IsPin sm.plan s.kit g (LogicAt two) port 1 net_there.0 moved_pin.0
    pin_there = record {
      has = has_two;
      on = net_there.1;
      place = stands.0.place;
      stands = subst (λ (leaf : LeafInstance). IsPlaceOf sm.plan s.kit g leaf stands.0.place) stands.1 stands.0.stands;
      image = subst (λ (p : Place). IsImage (placed p) (s.kit.pin (role sm.plan (LogicAt two)) port 1) moved_pin.0) (sym stands.2) (subst (λ (o : Role). IsImage (placed (moved_place dx (pos 0) pin.place)) (s.kit.pin o port 1) moved_pin.0) like_two (moved_image dx (pos 0) pin.place (s.kit.pin (role s.plan (LogicAt d)) port 1) rect moved_pin.0 pin.image moved_pin.1));
    }

    number : HasNumber (main_nets sm.plan) net_there.0
    number = signal_number sm.plan two port net_there.0 window.size.written has_two net_there.1 (signal_back r.moves net_there.0 (subst IsSignal (sym net_there.2) (main_signal s.plan w.number meets.0 meets.1)))

    pub bottom_contact : SeenThere connections s by reach is window i n t
    bottom_contact =
        let route = window.source.drawn.main in
        let l = place_below (main_nets sm.plan) number.0 net_there.0 number.1 in
        let count = route.meant.nets in
        let br = bottom_there (IsMainChannel sm.plan s.kit s.wire g) s.wire window.tracks.main is.source.drawn.laid.sizes route window.source.main (main_nets sm.plan) number.0 net_there.0 moved_pin.0.x1 number.1 (omega (arith, l, count))
        ((route.meant.bottom number.0 moved_pin.0.x1).1 (net_there.0, number.1, (two, port, record { rect = moved_pin.0; is = pin_there; begins = refl }))) in
        seen_by r.moves r.x2 dx (row_moved connections s by reach is window x r.x2) r.one n net_there.0 t br.1.u (net_there.2 ∙ sym (same_Some n meets.0 (sym w.named ∙ meets.1))) (inl (inl br.1.is)) (record {
          layer = br.1.box.on ∙ sym bx.box.on;
          left = inl (left rect.x1 moved_pin.0.x1 bx.x t.rect.x1 br.1.u.rect.x1 moved_pin.1.x1 begins bx.box.left br.1.box.left);
          right = inl (right rect.x1 moved_pin.0.x1 W bx.x t.rect.x2 br.1.u.rect.x2 moved_pin.1.x1 begins bx.box.right br.1.box.right);
          low = inl (low w.channel.low route.channel.low (pos (s.kit.height Inv)) t.rect.y1 br.1.u.rect.y1 w.routed.meant.low route.meant.low bx.box.low br.1.box.low);
          high = inr (high z.high route.channel.low (pos (s.kit.height Inv)) S W br.0 br.1.u.rect.y2 high_is route.meant.low br.2 br.1.box.high is.space (wide_wire connections s by reach is));
        })
      where
        left : (p p2 x a u : ℤ) → p2 ≡ p +ℤ dx → x ≡ p → a ≡ x → u ≡ p2 → u ≤ℤ (a +ℤ dx)
        left p p2 x a u h1 h2 h3 h4 = omega (arith, ints, h1, h2, h3, h4)

        right : (p p2 w x a u : ℤ) → p2 ≡ p +ℤ dx → x ≡ p → a ≡ x +ℤ w → u ≡ p2 +ℤ w → (a +ℤ dx) ≤ℤ u
        right p p2 w x a u h1 h2 h3 h4 = omega (arith, ints, h1, h2, h3, h4)

        low : (l l2 h a u : ℤ) → l ≡ h → l2 ≡ h → a ≡ l → u ≡ l2 → u ≤ℤ (a +ℤ pos 0)
        low l l2 h a u h1 h2 h3 h4 = omega (arith, ints, h1, h2, h3, h4)

        high : (zh l2 h sp w top u : ℤ) → zh ≡ h → l2 ≡ h → (l2 +ℤ (sp +ℤ w)) ≤ℤ top → u ≡ top → by ≤ℤ sp → pos 1 ≤ℤ w → ((zh +ℤ pos 0) +ℤ by) ≤ℤ u
        high zh l2 h sp w top u h1 h2 h3 h4 h5 h6 = omega (arith, ints, h1, h2, h3, h4, h5, h6)
        -- Supplies
