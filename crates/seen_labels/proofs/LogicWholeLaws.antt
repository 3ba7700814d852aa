-- Around a point of a cell of the logic row the small memory has what the memory has.
use Rattle.std.proofs.Common.{◌≡◌, inl, inr, ◌∙◌, ℕ, ◌+◌, ◌<◌, ◌≤◌, ℤ, pos, ◌+ℤ◌, ◌-ℤ◌, ◌≤ℤ◌, ◌<ℤ◌, List, [], refl, sym, ap, subst, arith}
use Rattle.std.proofs.lemmas.Bool.{cases_lt}
use Rattle.std.proofs.lemmas.Int.{ints}
use Rattle.or_geom.specs.declared.place.Place.{Place}
use Rattle.or_geom.specs.declared.shape.Point.{Point}
use Rattle.or_geom.specs.declared.shape.Shape.{Shape}
use Rattle.or_geom.specs.Joined.{IsIn}
use Rattle.cell_roles.specs.declared.role.Role.TheVariants.{Inv, Dff}
use Rattle.tech_rules.specs.declared.tech.Connect.{Connect}
use Rattle.sram_netlist.specs.Instances.{LogicCell, LeafInstance, LogicAt}
use Rattle.sram_netlist.specs.InstanceList.{logic_cells}
use Rattle.sram_netlist.specs.Netlist.{role, logic_role}
use Rattle.macro_layout.specs.Places.{IsPlaceOf, StandsInRow, total_width, upright}
use Rattle.moved_nets.specs.Moved.{logic_net}
use Rattle.good_places.specs.Leaves.{Zone, LiesNear, zone_of}
use Rattle.good_places.proofs.EdgeLaws.{place_at}
use Rattle.good_places.proofs.LaidLaws.{Numbers, numbers, in_zone}
use Rattle.good_places.proofs.NearLaws.{logic_far, logic_far_slice}
use Rattle.good_nets.specs.Parts.{IsShapeOf}
use Rattle.good_wires.proofs.PinLaws.{logic_upright}
use Rattle.kit_nets.specs.StatedParts.{Source, Standing, stated_parts}
use Rattle.small_rows.specs.Row.{IsCellAt}
use Rattle.row_runs.specs.Run.{IsCellRun, IsForth, IsBack}
use Rattle.row_runs.proofs.RunLaws.{run_of}
use Rattle.seen_pairs.specs.Window.{IsSeenSource, HasSeenWindow}
use Rattle.seen_pairs.proofs.PairLaws.{x_of, cell_at, cell_place, cell_zone_is, cell_dx, cell_standing, cell_stands_in, cell_role, row_moved_too, only_logic, has_cell}
use Rattle.seen_pairs.proofs.SeatLaws.{seat, shape_near, holding_zones, column_seat, front_seat, slice_seat}
use Rattle.small_wires.proofs.SeenWireLaws.{small}
use Rattle.seen_labels.specs.Stay.{DoShapesPassLittle}
use Rattle.seen_labels.specs.Whole.{StandsWith, StandsHere, IsWholeThere}
use Rattle.seen_labels.proofs.RowWholeLaws.{IsBy, IsFirstBy, first_by, ends_before, before_first}

module _ (connections : List Connect) (s : Source) (by reach : ℤ) (is : IsSeenSource connections s by reach) (window : HasSeenWindow connections s) (passes : DoShapesPassLittle s by) (i : Standing s) (c : LogicCell) (ei : i.leaf ≡ LogicAt c) (inner a : Shape) (p : Point) (of_i : IsShapeOf connections (stated_parts s) i inner a) (held : IsIn a.rect p) where
  abbrev sm : Source
  sm = small connections s by reach is window

  abbrev lx : ℤ
  lx = s.floorplan.logic_x

  abbrev gx : ℤ
  gx = window.floorplan.logic_x

  abbrev X : ℤ
  X = p.x -ℤ lx

  abbrev width : LogicCell → ℕ
  width d = s.kit.width (logic_role s.plan d)

  abbrev at : (j : Standing s) (d : LogicCell) → j.leaf ≡ LogicAt d → ℕ
  at = x_of connections s by reach is window

  -- a cell that draws a shape which holds the point is near to it
  near_point : (j : Standing s) (d : LogicCell) (e : j.leaf ≡ LogicAt d) (y b : Shape) → IsShapeOf connections (stated_parts s) j y b → IsIn b.rect p → IsBy s.plan s.kit by X d (at j d e)
  near_point j d e y b of_j in_b =
      let z = subst (λ (w : Zone). LiesNear by w b.rect) (cell_zone_is connections s by reach is window j d e) (shape_near connections s by reach is j y b of_j) in
      let pl = ap (λ (q : Place). q.at.x) (cell_place connections s by reach is window j d e) in
      record { left = left lx j.place.at.x b.rect.x1 p.x (at j d e) pl z.left in_b.left; right = right lx j.place.at.x b.rect.x2 p.x (at j d e) (width d) pl z.right in_b.right }
    where
      left : (l q b x : ℤ) (n : ℕ) → q ≡ l +ℤ pos n → q ≤ℤ (b +ℤ by) → b ≤ℤ x → pos n ≤ℤ ((x -ℤ l) +ℤ by)
      left l q b x n h1 h2 h3 = omega (arith, ints, h1, h2, h3)

      right : (l q b x : ℤ) (n w : ℕ) → q ≡ l +ℤ pos n → b ≤ℤ ((q +ℤ pos w) +ℤ by) → x ≤ℤ b → (x -ℤ l) ≤ℤ (pos (n + w) +ℤ by)
      right l q b x n w h1 h2 h3 = omega (arith, ints, h1, h2, h3)

  -- the first cell near the point, and its run
  first : IsFirstBy s.plan s.kit by X (logic_cells s.plan)
  first =
      let k = cell_at connections s by reach is window i c ei in
      first_by s.plan s.kit by X [] (logic_cells s.plan) (inl refl) k.before k.after c k.row (subst (IsBy s.plan s.kit by X c) (k.at ∙ none (total_width s.plan s.kit k.before)) (near_point i c ei inner a of_i held))
    where
      none : (n : ℕ) → n ≡ 0 + n
      none n = omega arith

  abbrev l : LogicCell
  l = first.cell

  abbrev x : ℕ
  x = total_width s.plan s.kit first.front

  drawn : (d : LogicCell) → 1 ≤ width d
  drawn d = go (s.kit.pin (logic_role s.plan d) 0 1).x1 s.wire.width (width d) (is.source.drawn.pins.left (logic_role s.plan d) 0 1) (is.source.drawn.pins.right (logic_role s.plan d) 0 1 (logic_upright s.plan d) (inl refl)) is.source.drawn.laid.sizes.width.from where
    go : (q w : ℤ) (n : ℕ) → pos 0 ≤ℤ q → (q +ℤ w) ≤ℤ pos n → pos 1 ≤ℤ w → 1 ≤ n
    go q w n h1 h2 h3 = omega (arith, ints, h1, h2, h3)

  first_at : IsCellAt s.plan s.kit l x
  first_at = record { before = first.front; after = first.back; row = first.is; at = refl }

  r : IsCellRun s.plan sm.plan s.kit reach (s.kit.width Dff) l x
  r = run_of s.plan s.kit s.wire window.word window.write window.masks reach is.words is.written window.size is.short drawn l x first_at

  abbrev dx : ℤ
  dx = cell_dx connections s by reach is window x r.x2

  -- near to the run's first cell
  behind : (y w x : ℕ) (X : ℤ) → pos y ≤ℤ (X +ℤ by) → X ≤ℤ (pos (x + w) +ℤ by) → (u : ℕ) → reach ≤ℤ pos u → y < (x + w) + u
  behind y w x X h1 h2 u h3 = let f = is.felt in omega (arith, ints, h1, h2, h3, f)

  -- what is near stands no further left
  from_first : (d : LogicCell) (y : ℕ) → IsCellAt s.plan s.kit d y → IsBy s.plan s.kit by X d y → x ≤ y
  from_first d y cell near = elim (cases_lt y x) [
    | inl lt ↦
        let b = cell.at in
        let e = ends_before s.plan s.kit (logic_cells s.plan) first.front first.back cell.before cell.after l d first.is cell.row (omega (arith, b, lt)) in
        let n = near.right in
        absurd (before_first s.plan s.kit by X first (go y x (total_width s.plan s.kit cell.before) (width d) b e n) (omega (arith, lt)))
    | inr ge ↦ ge
  ] where
    go : (y x b w : ℕ) → y ≡ b → b + w ≤ x → X ≤ℤ (pos (y + w) +ℤ by) → X ≤ℤ (pos x +ℤ by)
    go y x b w h1 h2 h3 = omega (arith, ints, h1, h2, h3)

  forth_of : (d : LogicCell) (y : ℕ) → IsCellAt s.plan s.kit d y → IsBy s.plan s.kit by X d y → IsForth sm.plan s.kit (s.kit.width Dff) r.moves d y x r.x2
  forth_of d y cell near = r.forth d y cell (from_first d y cell near) (behind y (width l) x X near.left first.near.right)

  with_it : (j : Standing s) (d : LogicCell) → j.leaf ≡ LogicAt d → (y b : Shape) → IsShapeOf connections (stated_parts s) j y b → IsIn b.rect p → StandsWith s sm (logic_net r.moves) dx (pos 0) j
  with_it j d e y b of_j in_b =
      let t = forth_of d (at j d e) (cell_at connections s by reach is window j d e) (near_point j d e y b of_j in_b) in
      let far = row_moved_too connections s by reach is window x (at j d e) r.x2 t.y2 t.far in
      let st = cell_standing connections s by reach is window j d e r.moves t.y2 dx far t.is in
      record { other = st.0; is = cell_stands_in connections s by reach is window j d e r.moves t.y2 dx far t.is; at = st.2 }

  forth : (j : Standing s) (y b : Shape) → IsShapeOf connections (stated_parts s) j y b → IsIn b.rect p → StandsWith s sm (logic_net r.moves) dx (pos 0) j
  forth j y b of_j in_b =
      let d = only_logic connections s by reach is window i j c ei (holding_zones connections s by reach is i j inner y a b p of_i of_j held in_b) in
      with_it j d.0 d.1 y b of_j in_b

  -- What draws a shape there that holds the point as far

  nw : Numbers sm.plan s.kit window.floorplan reach
  nw = numbers sm.plan s.kit s.wire window.floorplan reach window.source.drawn.laid is.short

  near_there : (k : Standing sm) (y b : Shape) → IsShapeOf connections (stated_parts sm) k y b → LiesNear by (zone_of sm.plan s.kit window.floorplan k.leaf k.place) b.rect
  near_there k y b of_k = in_zone sm.plan s.kit s.wire window.floorplan by window.source.drawn.laid k.leaf k.place y b k.has k.stands (passes sm.plan k.leaf y k.has of_k.listed) of_k.moved

  -- the point is no higher than the row
  low_point : p.y ≤ℤ (pos (s.kit.height Inv) +ℤ by)
  low_point =
      let z = subst (λ (w : Zone). LiesNear by w a.rect) (cell_zone_is connections s by reach is window i c ei) (shape_near connections s by reach is i inner a of_i) in
      let h = z.high in
      let g = held.high in
      omega (arith, ints, h, g)

  too_low : (low y1 : ℤ) → low ≤ℤ (y1 +ℤ by) → y1 ≤ℤ (p.y +ℤ pos 0) → low <ℤ (pos (s.kit.height Inv) +ℤ reach)
  too_low low y1 h1 h2 = let a = low_point in let f = is.felt in omega (arith, ints, h1, h2, a, f)

  logic_there : (k : Standing sm) (y b : Shape) → IsShapeOf connections (stated_parts sm) k y b → IsIn b.rect (record { x = p.x +ℤ dx; y = p.y +ℤ pos 0 }) → (e : LogicCell) × (k.leaf ≡ LogicAt e)
  logic_there k y b of_k in_b = elim (seat k.leaf) [
    | inl column ↦ absurd (logic_far sm.plan s.kit window.floorplan reach nw (too_low window.floorplan.column_y b.rect.y1 (subst (λ (w : Zone). LiesNear by w b.rect) (column_seat sm.plan s.kit window.floorplan k.leaf k.place column) (near_there k y b of_k)).low in_b.low))
    | inr (inl front) ↦ absurd (logic_far sm.plan s.kit window.floorplan reach nw (too_low window.floorplan.column_y b.rect.y1 (subst (λ (w : Zone). LiesNear by w b.rect) (front_seat sm.plan s.kit window.floorplan k.leaf k.place front) (near_there k y b of_k)).low in_b.low))
    | inr (inr (inl slice)) ↦ absurd (logic_far_slice sm.plan s.kit window.floorplan reach nw (too_low window.floorplan.write_y b.rect.y1 (subst (λ (w : Zone). LiesNear by w b.rect) (slice_seat sm.plan s.kit window.floorplan k.leaf k.place slice) (near_there k y b of_k)).low in_b.low))
    | inr (inr (inr logic)) ↦ logic
  ]

  first_forth : IsForth sm.plan s.kit (s.kit.width Dff) r.moves l x x r.x2
  first_forth = r.forth l x first_at (omega arith) (behind x (width l) x X first.near.left first.near.right)

  module _ (k : Standing sm) (e : LogicCell) (ek : k.leaf ≡ LogicAt e) (y b : Shape) (of_k : IsShapeOf connections (stated_parts sm) k y b) (in_b : IsIn b.rect (record { x = p.x +ℤ dx; y = p.y +ℤ pos 0 })) where
    st : StandsInRow sm.plan s.kit window.floorplan e k.place
    st = subst (λ (leaf : LeafInstance). IsPlaceOf sm.plan s.kit window.floorplan leaf k.place) ek k.stands

    abbrev z : ℕ
    z = total_width sm.plan s.kit st.before

    abbrev we : ℕ
    we = s.kit.width (logic_role sm.plan e)

    zone_is : zone_of sm.plan s.kit window.floorplan k.leaf k.place ≡ zone_of sm.plan s.kit window.floorplan (LogicAt e) k.place
    zone_is = ap (λ (leaf : LeafInstance). zone_of sm.plan s.kit window.floorplan leaf k.place) ek

    lies : LiesNear by (zone_of sm.plan s.kit window.floorplan (LogicAt e) k.place) b.rect
    lies = subst (λ (w : Zone). LiesNear by w b.rect) zone_is (near_there k y b of_k)

    at_x : k.place.at.x ≡ gx +ℤ pos z
    at_x = ap (λ (q : Place). q.at.x) st.at

    left_there : (pos z +ℤ pos x) ≤ℤ ((X +ℤ pos r.x2) +ℤ by)
    left_there = go lx gx k.place.at.x b.rect.x1 p.x z x r.x2 at_x lies.left in_b.left where
      go : (l g q b v : ℤ) (z x x2 : ℕ) → q ≡ g +ℤ pos z → q ≤ℤ (b +ℤ by) → b ≤ℤ (v +ℤ ((g +ℤ pos x2) -ℤ (l +ℤ pos x))) → (pos z +ℤ pos x) ≤ℤ (((v -ℤ l) +ℤ pos x2) +ℤ by)
      go l g q b v z x x2 h1 h2 h3 = omega (arith, ints, h1, h2, h3)

    right_there : (X +ℤ pos r.x2) ≤ℤ ((pos (z + we) +ℤ pos x) +ℤ by)
    right_there = go lx gx k.place.at.x b.rect.x2 p.x z x r.x2 we at_x lies.right in_b.right where
      go : (l g q b v : ℤ) (z x x2 w : ℕ) → q ≡ g +ℤ pos z → b ≤ℤ ((q +ℤ pos w) +ℤ by) → (v +ℤ ((g +ℤ pos x2) -ℤ (l +ℤ pos x))) ≤ℤ b → ((v -ℤ l) +ℤ pos x2) ≤ℤ ((pos (z + w) +ℤ pos x) +ℤ by)
      go l g q b v z x x2 w h1 h2 h3 = omega (arith, ints, h1, h2, h3)

    from_there : r.x2 ≤ z
    from_there = elim (cases_lt z r.x2) [
      | inl lt ↦
          let f = first_forth in
          let y2 = f.far in
          let fa = f.is.at.at in
          let eb = ends_before sm.plan s.kit (logic_cells sm.plan) f.is.at.before f.is.at.after st.before st.after f.is.one e f.is.at.row st.row (omega (arith, y2, fa, lt)) in
          let rt = right_there in
          let some : 0 < x = positive lt in
          absurd (before_first s.plan s.kit by X first (go z we r.x2 x f.y2 (total_width sm.plan s.kit f.is.at.before) y2 fa eb rt) some)
      | inr ge ↦ ge
    ] where
      positive : z < r.x2 → 0 < x
      positive lt = elim (cases_lt 0 x) [ inl more ↦ more | inr none ↦ let b = r.begins (omega (arith, none)) in absurd (omega (arith, lt, b)) ]

      go : (z w x2 x y2 b : ℕ) → x2 + x ≡ y2 + x → y2 ≡ b → z + w ≤ b → (X +ℤ pos x2) ≤ℤ ((pos (z + w) +ℤ pos x) +ℤ by) → X ≤ℤ (pos x +ℤ by)
      go z w x2 x y2 b h1 h2 h3 h4 = omega (arith, ints, h1, h2, h3, h4)

    there_at : IsCellAt sm.plan s.kit e z
    there_at = record { before = st.before; after = st.after; row = st.row; at = refl }

    found : IsBack s.plan sm.plan s.kit e z x r.x2
    found = r.back e z there_at from_there (λ u le. go z (width l) x r.x2 u left_there first.near.right le) where
      go : (z w x x2 u : ℕ) → (pos z +ℤ pos x) ≤ℤ ((X +ℤ pos x2) +ℤ by) → X ≤ℤ (pos (x + w) +ℤ by) → reach ≤ℤ pos u → z < (x2 + w) + u
      go z w x x2 u h1 h2 h3 = let f = is.felt in omega (arith, ints, h1, h2, h3, f)

    back_at : StandsHere s sm dx (pos 0) k
    back_at =
        let f = found in
        let place : Place = upright (lx +ℤ pos (total_width s.plan s.kit f.at.before)) (pos 0) in
        record {
          here = record { leaf = LogicAt f.d; has = has_cell s.plan f.at.before f.at.after f.d f.at.row; place = place; stands = record { before = f.at.before; after = f.at.after; row = f.at.row; at = refl } };
          same_role = f.role ∙ ap (role sm.plan) (sym ek);
          at = st.at ∙ place_at (gx +ℤ pos z) (pos 0) ((lx +ℤ pos (total_width s.plan s.kit f.at.before)) +ℤ dx) (pos 0 +ℤ pos 0) (go lx gx z x r.x2 f.y (total_width s.plan s.kit f.at.before) f.at.at f.far) (omega (arith, ints));
        }
      where
        go : (l g : ℤ) (z x x2 y b : ℕ) → y ≡ b → x2 + y ≡ z + x → g +ℤ pos z ≡ (l +ℤ pos b) +ℤ ((g +ℤ pos x2) -ℤ (l +ℤ pos x))
        go l g z x x2 y b h1 h2 = omega (arith, ints, h1, h2)

  pub logic_whole : IsWholeThere connections s sm i p
  unfolding with_it
  logic_whole =
      let own = with_it i c ei inner a of_i held in
      let t = forth_of c (at i c ei) (cell_at connections s by reach is window i c ei) (near_point i c ei inner a of_i held) in
      let far = row_moved_too connections s by reach is window x (at i c ei) r.x2 t.y2 t.far in
      record {
        f = logic_net r.moves;
        dx = dx;
        dy = pos 0;
        one = own.other;
        one_is = own.is;
        one_at = own.at;
        one_role = cell_role connections s by reach is window i c ei r.moves t.y2 dx far t.is;
        forth = forth;
        back = λ k y b of_k in_b. let e = logic_there k y b of_k in_b in back_at k e.0 e.1 y b of_k in_b;
      }
