-- Two instances whose shapes touch are seen in a small memory.
use Rattle.std.proofs.Common.{◌≡◌, ◌⊎◌, inl, inr, ◌∙◌, ℕ, ◌+◌, ◌<◌, ℤ, pos, ◌+ℤ◌, ◌-ℤ◌, ◌≤ℤ◌, ◌<ℤ◌, List, ◌∷◌, ◌++◌, refl, sym, ap, subst, arith}
use Rattle.std.specs.Prelude.{map}
use Rattle.std.proofs.lemmas.Int.{ints}
use Rattle.or_geom.specs.declared.place.Place.{Place}
use Rattle.or_geom.specs.declared.shape.Point.{Point}
use Rattle.or_geom.specs.declared.shape.Shape.{Shape}
use Rattle.or_geom.specs.Joined.{IsIn}
use Rattle.or_geom.specs.Place.{placed}
use Rattle.cell_roles.specs.declared.role.Role.TheVariants.{Inv, Dff}
use Rattle.tech_rules.specs.declared.tech.Connect.{Connect}
use Rattle.tech_rules.specs.Touch.{Touch}
use Rattle.sram_netlist.specs.Organization.{Organization, banks_of}
use Rattle.sram_netlist.specs.Nets.{Net}
use Rattle.sram_netlist.specs.Instances.{LogicCell, LeafInstance, LogicAt, Clki}
use Rattle.sram_netlist.specs.InstanceList.{logic_cells, tabulate_lists, bank_leaves}
use Rattle.sram_netlist.specs.Membership.{IsOneOf, HasLeafInstance}
use Rattle.sram_netlist.specs.Netlist.{role, logic_role}
use Rattle.sram_netlist.proofs.InstanceLists.{lists_agree, in_front, in_back, to_map}
use Rattle.macro_layout.specs.Places.{IsPlaceOf, StandsInRow, total_width, upright}
use Rattle.good_places.specs.Beside.{moved_place}
use Rattle.good_places.specs.Leaves.{Zone, AreNearZones, zone_of}
use Rattle.good_places.proofs.EdgeLaws.{place_at}
use Rattle.good_places.proofs.LaidLaws.{Numbers, numbers}
use Rattle.good_places.proofs.NearLaws.{logic_far, logic_far_slice}
use Rattle.good_nets.specs.Parts.{ArePairSeen, IsShapeOf, StandsIn, SeenLayout}
use Rattle.moved_nets.specs.Moved.{Moves, logic_net, moved_cell}
use Rattle.kit_nets.specs.StatedParts.{Source, Standing, stated_parts}
use Rattle.kit_nets.specs.StandIns.{StandsMoved}
use Rattle.kit_nets.proofs.StandInLaws.{logic_same_role, logic_stands_in}
use Rattle.kit_nets.proofs.StatedWindowLaws.{stated_window_is_right}
use Rattle.seen_pairs.specs.Counterpart.{IsOfColumns, IsOfFronts, IsOfSlices}
use Rattle.small_rows.specs.Row.{IsCellAt, IsCellThere, AreCellsSeen, AreNearCells}
use Rattle.seen_pairs.specs.There.{HasCounterpart, ArePairThere}
use Rattle.seen_pairs.specs.Window.{IsSeenSource, HasSeenWindow}
use Rattle.seen_pairs.proofs.BankPairLaws.{w, akin, at_moved, column_pair, front_pair, slice_pair, column_there, front_there, slice_there}
use Rattle.small_rows.proofs.LogicPairLaws.{cells_seen}
use Rattle.seen_pairs.proofs.SeatLaws.{seat, column_seat, front_seat, slice_seat, zone_at, near_zones, holding_zones}

is_there : {X : Type 0} (before after : List X) (x : X) → IsOneOf x (before ++ (x ∷ after))
is_there before after x = in_back x before (x ∷ after) (inl refl)

-- what stands in the row is a cell of it
pub has_cell : (plan : Organization) (before after : List LogicCell) (cell : LogicCell) → logic_cells plan ≡ before ++ (cell ∷ after) → HasLeafInstance plan (LogicAt cell)
has_cell plan before after cell row =
    (lists_agree plan (LogicAt cell)).0 (in_front (LogicAt cell) (map LogicAt (logic_cells plan)) (tabulate_lists (banks_of plan) (bank_leaves plan)) (to_map LogicAt cell (logic_cells plan) (subst (IsOneOf cell) (sym row) (is_there before after cell))))

-- the cell of an instance of the logic row
abbrev cell_of : LeafInstance → LogicCell
cell_of (LogicAt cell) = cell
cell_of leaf = Clki

module _ (connections : List Connect) (s : Source) (by reach : ℤ) (is : IsSeenSource connections s by reach) (window : HasSeenWindow connections s) where
  abbrev small : Source
  small = w connections s by reach is window

  n : Numbers s.plan s.kit s.floorplan reach
  n = numbers s.plan s.kit s.wire s.floorplan reach is.source.drawn.laid is.short

  -- A cell of the logic row, and how far right it stands

  pub cell_stands : (i : Standing s) (cell : LogicCell) → i.leaf ≡ LogicAt cell → StandsInRow s.plan s.kit s.floorplan cell i.place
  cell_stands i cell e = subst (λ (leaf : LeafInstance). IsPlaceOf s.plan s.kit s.floorplan leaf i.place) e i.stands

  abbrev pub x_of : (i : Standing s) (cell : LogicCell) → i.leaf ≡ LogicAt cell → ℕ
  x_of i cell e = total_width s.plan s.kit (cell_stands i cell e).before

  pub cell_at : (i : Standing s) (cell : LogicCell) (e : i.leaf ≡ LogicAt cell) → IsCellAt s.plan s.kit cell (x_of i cell e)
  cell_at i cell e = let st = cell_stands i cell e in record { before = st.before; after = st.after; row = st.row; at = refl }

  pub cell_place : (i : Standing s) (cell : LogicCell) (e : i.leaf ≡ LogicAt cell) → i.place ≡ upright (s.floorplan.logic_x +ℤ pos (x_of i cell e)) (pos 0)
  cell_place i cell e = (cell_stands i cell e).at

  -- the zone of such a cell
  pub cell_zone_is : (i : Standing s) (cell : LogicCell) (e : i.leaf ≡ LogicAt cell) → zone_at connections s by reach is i ≡ zone_of s.plan s.kit s.floorplan (LogicAt cell) i.place
  cell_zone_is i cell e = ap (λ (leaf : LeafInstance). zone_of s.plan s.kit s.floorplan leaf i.place) e

  near_cells : (i j : Standing s) (c d : LogicCell) (ei : i.leaf ≡ LogicAt c) (ej : j.leaf ≡ LogicAt d) → AreNearZones reach (zone_at connections s by reach is j) (zone_at connections s by reach is i) → AreNearCells reach (s.kit.width (logic_role s.plan c)) (s.kit.width (logic_role s.plan d)) (x_of i c ei) (x_of j d ej)
  near_cells i j c d ei ej near =
      let z = subst (λ (a : Zone). AreNearZones reach a (zone_of s.plan s.kit s.floorplan (LogicAt c) i.place)) (cell_zone_is j d ej) (subst (AreNearZones reach (zone_at connections s by reach is j)) (cell_zone_is i c ei) near) in
      let pi = ap (λ (p : Place). p.at.x) (cell_place i c ei) in
      let pj = ap (λ (p : Place). p.at.x) (cell_place j d ej) in
      record {
        before = λ u le. go s.floorplan.logic_x i.place.at.x j.place.at.x reach (x_of i c ei) (x_of j d ej) (s.kit.width (logic_role s.plan c)) u pi pj z.left le;
        behind = λ u le. go s.floorplan.logic_x j.place.at.x i.place.at.x reach (x_of j d ej) (x_of i c ei) (s.kit.width (logic_role s.plan d)) u pj pi z.right le;
      }
    where
      go : (l x y r : ℤ) (a b v u : ℕ) → x ≡ l +ℤ pos a → y ≡ l +ℤ pos b → y <ℤ ((x +ℤ pos v) +ℤ r) → r ≤ℤ pos u → b < (a + v) + u
      go l x y r a b v u p q lt le = omega (arith, ints, p, q, lt, le)

  -- Its stand-in

  abbrev pub least : ℕ
  least = s.kit.width Dff

  abbrev pub cell_dx : ℕ → ℕ → ℤ
  cell_dx x x2 = (window.floorplan.logic_x +ℤ pos x2) -ℤ (s.floorplan.logic_x +ℤ pos x)

  pub cell_standing : (i : Standing s) (c : LogicCell) (e : i.leaf ≡ LogicAt c) (v : Moves) (x2 : ℕ) (dx : ℤ) → (s.floorplan.logic_x +ℤ pos (x_of i c e)) +ℤ dx ≡ window.floorplan.logic_x +ℤ pos x2 → (t : IsCellThere small.plan s.kit least v c (x_of i c e) x2)
      → (i' : Standing small) × (i'.leaf ≡ LogicAt t.one) × (i'.place ≡ moved_place dx (pos 0) i.place)
  cell_standing i c e v x2 dx far t = (
    record {
      leaf = LogicAt t.one;
      has = has_cell small.plan t.at.before t.at.after t.one t.at.row;
      place = moved_place dx (pos 0) i.place;
      stands = record {
        before = t.at.before;
        after = t.at.after;
        row = t.at.row;
        at = ap (moved_place dx (pos 0)) (cell_place i c e) ∙ place_at ((s.floorplan.logic_x +ℤ pos (x_of i c e)) +ℤ dx) (pos 0 +ℤ pos 0) (window.floorplan.logic_x +ℤ pos (total_width small.plan s.kit t.at.before)) (pos 0) (far ∙ ap (λ (k : ℕ). window.floorplan.logic_x +ℤ pos k) t.at.at) (stays (pos 0));
      };
    },
    refl,
    refl,
  ) where
    stays : (y : ℤ) → y +ℤ pos 0 ≡ y
    stays y = omega (arith, ints)

  pub row_moved : (x x2 : ℕ) → (s.floorplan.logic_x +ℤ pos x) +ℤ cell_dx x x2 ≡ window.floorplan.logic_x +ℤ pos x2
  row_moved x x2 = go (s.floorplan.logic_x +ℤ pos x) (window.floorplan.logic_x +ℤ pos x2) where
    go : (a b : ℤ) → a +ℤ (b -ℤ a) ≡ b
    go a b = omega (arith, ints)

  pub row_moved_too : (x y x2 y2 : ℕ) → x2 + y ≡ y2 + x → (s.floorplan.logic_x +ℤ pos y) +ℤ cell_dx x x2 ≡ window.floorplan.logic_x +ℤ pos y2
  row_moved_too x y x2 y2 far = go s.floorplan.logic_x window.floorplan.logic_x x y x2 y2 far where
    go : (l g : ℤ) (x y x2 y2 : ℕ) → x2 + y ≡ y2 + x → (l +ℤ pos y) +ℤ ((g +ℤ pos x2) -ℤ (l +ℤ pos x)) ≡ g +ℤ pos y2
    go l g x y x2 y2 far = omega (arith, ints, far)

  -- near cells are seen in the other memory's row
  pub row_seen : (i j : Standing s) (c d : LogicCell) (ei : i.leaf ≡ LogicAt c) (ej : j.leaf ≡ LogicAt d) → AreNearZones reach (zone_at connections s by reach is j) (zone_at connections s by reach is i) → AreCellsSeen small.plan s.kit least c d (x_of i c ei) (x_of j d ej)
  row_seen i j c d ei ej near = cells_seen s.plan s.kit s.wire window.word window.write window.masks reach is.words is.written window.size is.short c d (x_of i c ei) (x_of j d ej) (cell_at i c ei) (cell_at j d ej) (near_cells i j c d ei ej near)

  pub stands_moved : (i : Standing s) (i' : Standing small) (dx : ℤ) → i'.place ≡ moved_place dx (pos 0) i.place → StandsMoved s small dx (pos 0) i i'
  stands_moved i i' dx e p = ap (λ (q : Place). placed q p) e ∙ at_moved dx (pos 0) i.place p

  -- one cell's stand-in, which shows its nets
  pub cell_stands_in : (i : Standing s) (c : LogicCell) (e : i.leaf ≡ LogicAt c) (v : Moves) (x2 : ℕ) (dx : ℤ) (far : (s.floorplan.logic_x +ℤ pos (x_of i c e)) +ℤ dx ≡ window.floorplan.logic_x +ℤ pos x2) (t : IsCellThere small.plan s.kit least v c (x_of i c e) x2)
      → StandsIn (stated_parts s) (stated_parts small) (logic_net v) dx (pos 0) i (cell_standing i c e v x2 dx far t).0
  cell_stands_in i c e v x2 dx far t =
      let st = cell_standing i c e v x2 dx far t in
      logic_stands_in s small (akin connections s by reach is window) v dx (pos 0) i st.0 t.one st.1 t.as_mask (e ∙ ap LogicAt t.is) (stands_moved i st.0 dx st.2)

  pub cell_role : (i : Standing s) (c : LogicCell) (e : i.leaf ≡ LogicAt c) (v : Moves) (x2 : ℕ) (dx : ℤ) (far : (s.floorplan.logic_x +ℤ pos (x_of i c e)) +ℤ dx ≡ window.floorplan.logic_x +ℤ pos x2) (t : IsCellThere small.plan s.kit least v c (x_of i c e) x2)
      → role small.plan (cell_standing i c e v x2 dx far t).0.leaf ≡ role s.plan i.leaf
  cell_role i c e v x2 dx far t = ap (role small.plan) (cell_standing i c e v x2 dx far t).1 ∙ sym (ap (role s.plan) (e ∙ ap LogicAt t.is) ∙ logic_same_role s.plan small.plan v t.one (akin connections s by reach is window).plans)

  pub logic_pair : (i j : Standing s) (c d : LogicCell) → i.leaf ≡ LogicAt c → j.leaf ≡ LogicAt d → AreNearZones reach (zone_at connections s by reach is j) (zone_at connections s by reach is i) → (i.leaf ≡ j.leaf → ⊥) → ArePairThere s small i j
  logic_pair i j c d ei ej near differ =
      let r = row_seen i j c d ei ej near in
      let dx = cell_dx (x_of i c ei) r.x2 in
      let far_i = row_moved (x_of i c ei) r.x2 in
      let far_j = row_moved_too (x_of i c ei) (x_of j d ej) r.x2 r.y2 r.as_far in
      let a = cell_standing i c ei r.moves r.x2 dx far_i r.one in
      let b = cell_standing j d ej r.moves r.y2 dx far_j r.two in
      record {
        f = logic_net r.moves;
        dx = dx;
        dy = pos 0;
        one = a.0;
        other = b.0;
        differ = λ e. differ (ei ∙ (ap LogicAt r.one.is ∙ (one_leaf r.moves r.one.one r.two.one (sym a.1 ∙ (e ∙ b.1)) ∙ (ap LogicAt (sym r.two.is) ∙ sym ej))));
        one_is = cell_stands_in i c ei r.moves r.x2 dx far_i r.one;
        other_is = cell_stands_in j d ej r.moves r.y2 dx far_j r.two;
        one_at = a.2;
        one_role = cell_role i c ei r.moves r.x2 dx far_i r.one;
        other_at = b.2;
      }
    where
      one_leaf : (v : Moves) (c d : LogicCell) → LogicAt c ≡ LogicAt d → LogicAt (moved_cell v c) ≡ LogicAt (moved_cell v d)
      one_leaf v c d e = ap (λ (k : LogicCell). LogicAt (moved_cell v k)) (inner (LogicAt c) (LogicAt d) e) where
        inner : (a b : LeafInstance) → a ≡ b → cell_of a ≡ cell_of b
        inner a b e = ap cell_of e

  -- a cell by itself: it is near to itself
  logic_there : (i : Standing s) (c : LogicCell) → i.leaf ≡ LogicAt c → AreNearZones reach (zone_at connections s by reach is i) (zone_at connections s by reach is i) → HasCounterpart s small i
  logic_there i c ei near =
      let r = row_seen i i c c ei ei near in
      let dx = cell_dx (x_of i c ei) r.x2 in
      let far = row_moved (x_of i c ei) r.x2 in
      record { f = logic_net r.moves; dx = dx; dy = pos 0; one = (cell_standing i c ei r.moves r.x2 dx far r.one).0; one_is = cell_stands_in i c ei r.moves r.x2 dx far r.one; one_at = (cell_standing i c ei r.moves r.x2 dx far r.one).2; one_role = cell_role i c ei r.moves r.x2 dx far r.one }

  -- nothing else is near the logic row
  pub only_logic : (i j : Standing s) (c : LogicCell) → i.leaf ≡ LogicAt c → AreNearZones reach (zone_at connections s by reach is j) (zone_at connections s by reach is i) → (d : LogicCell) × (j.leaf ≡ LogicAt d)
  only_logic i j c e near = elim (seat j.leaf) [
    | inl column ↦ absurd (far (high (inl column)))
    | inr (inl front) ↦ absurd (far (high (inr front)))
    | inr (inr (inl slice)) ↦ absurd (far_slice (high_slice slice))
    | inr (inr (inr logic)) ↦ logic
  ] where
    z : AreNearZones reach (zone_at connections s by reach is j) (zone_of s.plan s.kit s.floorplan (LogicAt c) i.place)
    z = subst (AreNearZones reach (zone_at connections s by reach is j)) (cell_zone_is i c e) near

    far : s.floorplan.column_y <ℤ (pos (s.kit.height Inv) +ℤ reach) → ⊥
    far = logic_far s.plan s.kit s.floorplan reach n

    far_slice : s.floorplan.write_y <ℤ (pos (s.kit.height Inv) +ℤ reach) → ⊥
    far_slice = logic_far_slice s.plan s.kit s.floorplan reach n

    Near : Zone → Type 0
    Near a = AreNearZones reach a (zone_of s.plan s.kit s.floorplan (LogicAt c) i.place)

    high : IsOfColumns j.leaf ⊎ IsOfFronts j.leaf → s.floorplan.column_y <ℤ (pos (s.kit.height Inv) +ℤ reach)
    high (inl column) = (subst Near (column_seat s.plan s.kit s.floorplan j.leaf j.place column) z).low
    high (inr front) = (subst Near (front_seat s.plan s.kit s.floorplan j.leaf j.place front) z).low

    high_slice : IsOfSlices j.leaf → s.floorplan.write_y <ℤ (pos (s.kit.height Inv) +ℤ reach)
    high_slice slice = (subst Near (slice_seat s.plan s.kit s.floorplan j.leaf j.place slice) z).low

  -- Two instances near each other are there together.
  pub near_pair : (i j : Standing s) → (i.leaf ≡ j.leaf → ⊥) → AreNearZones reach (zone_at connections s by reach is j) (zone_at connections s by reach is i) → ArePairThere s small i j
  near_pair i j differ near = elim (seat i.leaf) [
    | inl column ↦ column_pair connections s by reach is window i j column near differ
    | inr (inl front) ↦ front_pair connections s by reach is window i j front near differ
    | inr (inr (inl slice)) ↦ slice_pair connections s by reach is window i j slice near differ
    | inr (inr (inr (c, e))) ↦ let d = only_logic i j c e near in logic_pair i j c d.0 e d.1 near differ
  ]

  -- Each instance that draws a shape is there.
  pub one_there : (i : Standing s) (x a : Shape) → IsShapeOf connections (stated_parts s) i x a → HasCounterpart s small i
  one_there i x a of = elim (seat i.leaf) [
    | inl column ↦ column_there connections s by reach is window i column
    | inr (inl front) ↦ front_there connections s by reach is window i front
    | inr (inr (inl slice)) ↦ slice_there connections s by reach is window i slice
    | inr (inr (inr (c, e))) ↦ logic_there i c e near
  ] where
    corner : Point
    corner = record { x = a.rect.x1; y = a.rect.y1 }

    held : IsIn a.rect corner
    held = let wide : a.rect.x1 <ℤ a.rect.x2 = a.rect.wide in let tall : a.rect.y1 <ℤ a.rect.y2 = a.rect.tall in record { left = omega (arith, ints); right = omega (arith, ints, wide); low = omega (arith, ints); high = omega (arith, ints, tall) }

    near : AreNearZones reach (zone_at connections s by reach is i) (zone_at connections s by reach is i)
    near = holding_zones connections s by reach is i i x x a a corner of of held held

  -- the small memory, as a layout whose nets are right
  abbrev pub right_window : SeenLayout Net connections
  right_window = record {
    parts = stated_parts small;
    shapes = window.flat.shapes;
    plain = window.flat.labels;
    labels = window.labels;
    pins = window.rows;
    right = stated_window_is_right connections small window.flat window.labels window.rows window.stated;
  }

  -- Two instances whose shapes touch are seen together.
  pub pairs_seen : (i j : Standing s) (x y a b : Shape) → (i.leaf ≡ j.leaf → ⊥) → IsShapeOf connections (stated_parts s) i x a → IsShapeOf connections (stated_parts s) j y b → Touch connections a b → ArePairSeen connections (stated_parts s) i j
  pairs_seen i j x y a b differ of_i of_j touch =
      let there = near_pair i j differ (near_zones connections s by reach is i j x y a b of_i of_j touch) in
      record { window = right_window; f = there.f; dx = there.dx; dy = there.dy; one = there.one; other = there.other; differ = there.differ; one_is = there.one_is; other_is = there.other_is }
