-- Around a point of an instance of a bank the small memory has what the memory has.
use Rattle.std.proofs.Common.{◌≡◌, ◌⊎◌, ◌↔◌, inl, inr, ℕ, zero, suc, ◌+◌, ◌*◌, ◌<◌, ◌≤◌, ℤ, pos, ◌+ℤ◌, ◌-ℤ◌, List, [], refl, sym, subst, arith}
use Rattle.std.proofs.lemmas.Int.{ints}
use Rattle.or_geom.specs.declared.place.Place.{Place}
use Rattle.or_geom.specs.declared.shape.Point.{Point}
use Rattle.or_geom.specs.declared.shape.Shape.{Shape}
use Rattle.or_geom.specs.Joined.{IsIn}
use Rattle.cell_roles.specs.declared.role.Role.TheVariants.{Bitcell, Precharge, Sense}
use Rattle.tech_rules.specs.declared.tech.Connect.{Connect}
use Rattle.sram_netlist.specs.Organization.{columns_of, words_per_row}
use Rattle.sram_netlist.specs.BitCells.{BitCells, Alike}
use Rattle.sram_netlist.specs.Netlist.{role}
use Rattle.macro_layout.specs.Places.{Floorplan, bank_x, column_x, leaf_cell, drive_width}
use Rattle.macro_layout.specs.Floorplan.{column_channel_y}
use Rattle.moved_nets.specs.Moved.{slice_net}
use Rattle.good_places.specs.Beside.{IsNext, AreAtOneEdge, HaveOneLeftPart, moved_place}
use Rattle.good_places.specs.Beside as beside
use Rattle.good_places.specs.Columns.{right_of, up_of}
use Rattle.good_places.specs.Zones.{slice_right_of}
use Rattle.good_places.specs.Leaves.{Zone, AreNearZones, LiesNear, zone_of, column_zone, front_zone, slice_zone}
use Rattle.good_places.proofs.AlikeLaws.{columns_are_near_alike, fronts_are_near_alike, slices_are_near_alike}
use Rattle.good_places.proofs.LaidLaws.{Numbers, numbers, in_zone}
use Rattle.good_places.proofs.NearLaws.{beside_column, beside_front, beside_slice}
use Rattle.good_nets.specs.Parts.{IsShapeOf}
use Rattle.kit_nets.specs.StatedParts.{Source, Standing, stated_parts}
use Rattle.kit_nets.proofs.StandInLaws.{slice_stands_in}
use Rattle.small_rows.specs.Few.{IsAmongFew}
use Rattle.small_rows.proofs.FewLaws.{among_few}
use Rattle.small_rows.proofs.SteadyLaws.{one_unit}
use Rattle.small_wires.proofs.SpanLaws.{beside_few}
use Rattle.small_wires.proofs.SeenWireLaws.{small}
use Rattle.seen_pairs.specs.Counterpart.{IsOfColumns, IsOfFronts, IsOfSlices, leaf_bank, number_of, right_by, columns_up, slices_up}
use Rattle.seen_pairs.specs.Window.{IsSeenSource, HasSeenWindow}
use Rattle.seen_pairs.proofs.BankPairLaws.{akin, few, Counter, standing, stands_moved, column_found, front_found, slice_found, columns_few, in_bank, power_low}
use Rattle.seen_pairs.proofs.CounterLaws.{column_right, row_right, front_right, precharge_up, sense_up, slice_sum}
use Rattle.seen_pairs.proofs.SeatLaws.{zone_at, shape_near, holding_zones, column_seat, front_seat, slice_seat, column_below, slice_below, beside_is, beside_slice_is}
use Rattle.seen_labels.specs.Stay.{DoShapesPassLittle}
use Rattle.seen_labels.specs.Whole.{StandsHere, IsWholeThere}

-- the number among many is first or last where that among few is
edge_of : (n k c m : ℕ) (f : IsAmongFew n k c m) → c < n → AreAtOneEdge n c k f.d
edge_of n k c m f lt = record { here = lt; there = f.inside; first = first f.left; last = last f.right } where
  first : (m ≡ 0) ⊎ (1 ≤ f.d) → (c ≡ 0) ↔ (f.d ≡ 0)
  first (inl none) = let s = f.sum in (λ z. omega (arith, s, z), λ z. omega (arith, s, z, none))
  first (inr some) = let s = f.sum in (λ z. omega (arith, s, z), λ z. absurd (omega (arith, z, some)))

  last : (n ≡ k + m) ⊎ (f.d + 3 ≤ k) → (c + 1 ≡ n) ↔ (f.d + 1 ≡ k)
  last (inl all) = let s = f.sum in (λ e. omega (arith, s, all, e), λ e. omega (arith, s, all, e))
  last (inr more) = let s = f.sum in let w = f.within in (λ e. absurd (omega (arith, s, w, more, e)), λ e. absurd (omega (arith, more, e)))

module _ (connections : List Connect) (s : Source) (by reach : ℤ) (is : IsSeenSource connections s by reach) (window : HasSeenWindow connections s) (passes : DoShapesPassLittle s by) (i : Standing s) (inner a : Shape) (p : Point) (of_i : IsShapeOf connections (stated_parts s) i inner a) (held : IsIn a.rect p) where
  abbrev sm : Source
  sm = small connections s by reach is window

  abbrev f : Floorplan
  f = s.floorplan

  abbrev g : Floorplan
  g = window.floorplan

  abbrev wpr : ℕ
  wpr = words_per_row s.plan

  abbrev Counted : ℕ → ℤ → ℤ → Standing s → Type 0
  Counted = Counter connections s by reach is window

  abbrev b : ℕ
  b = leaf_bank i.leaf

  n : Numbers s.plan s.kit s.floorplan reach
  n = numbers s.plan s.kit s.wire s.floorplan reach is.source.drawn.laid is.short

  near_to : (j : Standing s) (y t : Shape) → IsShapeOf connections (stated_parts s) j y t → IsIn t.rect p → AreNearZones reach (zone_at connections s by reach is j) (zone_at connections s by reach is i)
  near_to j y t of_j in_t = holding_zones connections s by reach is i j inner y a t p of_i of_j held in_t

  -- by counterparts so many slices before
  module _ (m : ℕ) (dx dy : ℤ) (own : Counted m dx dy i) where
    abbrev one : Standing sm
    one = standing connections s by reach is window m dx dy i own

    lies_there : (k : Standing sm) (y t : Shape) → IsShapeOf connections (stated_parts sm) k y t → LiesNear by (zone_of sm.plan s.kit g k.leaf k.place) t.rect
    lies_there k y t of_k = in_zone sm.plan s.kit s.wire g by window.source.drawn.laid k.leaf k.place y t k.has k.stands (passes sm.plan k.leaf y k.has of_k.listed) of_k.moved

    whole_of : ((j : Standing s) → AreNearZones reach (zone_at connections s by reach is j) (zone_at connections s by reach is i) → Counted m dx dy j)
        → (z : Zone) → LiesNear by z a.rect → (there : Zone) → (near : (w : Zone) (t : Shape) → LiesNear by w t.rect → IsIn t.rect (record { x = p.x +ℤ dx; y = p.y +ℤ dy }) → AreNearZones reach w there)
        → ((k : Standing sm) → AreNearZones reach (zone_of sm.plan s.kit g k.leaf k.place) there → StandsHere s sm dx dy k) → IsWholeThere connections s sm i p
    whole_of counters z lies there near from = record {
      f = slice_net s.plan m;
      dx = dx;
      dy = dy;
      one = one;
      one_is = slice_stands_in s sm (akin connections s by reach is window) m dx dy i one own.inside own.is (stands_moved connections s by reach is window m dx dy i own);
      one_at = refl;
      one_role = own.same_role;
      forth = λ j y t of_j in_t.
          let c = counters j (near_to j y t of_j in_t) in
          let other = standing connections s by reach is window m dx dy j c in
          record { other = other; is = slice_stands_in s sm (akin connections s by reach is window) m dx dy j other c.inside c.is (stands_moved connections s by reach is window m dx dy j c); at = refl };
      back = λ k y t of_k in_t. from k (near (zone_of sm.plan s.kit g k.leaf k.place) t (lies_there k y t of_k) in_t);
    }

  -- the zone there, and what holds the point as far
  moved_near : (dx dy : ℤ) (z there : Zone) → LiesNear by z a.rect → there.left ≡ z.left +ℤ dx → there.right ≡ z.right +ℤ dx → there.low ≡ z.low +ℤ dy → there.high ≡ z.high +ℤ dy → (w : Zone) (t : Shape) → LiesNear by w t.rect → IsIn t.rect (record { x = p.x +ℤ dx; y = p.y +ℤ dy }) → AreNearZones reach w there
  moved_near dx dy z there lies l r lo hi w t near in_t =
      let fe = is.felt in
      record {
        left = let h1 = near.left in let h2 = in_t.left in let h3 = held.right in let h4 = lies.right in omega (arith, ints, fe, h1, h2, h3, h4, r);
        right = let h1 = near.right in let h2 = in_t.right in let h3 = held.left in let h4 = lies.left in omega (arith, ints, fe, h1, h2, h3, h4, l);
        low = let h1 = near.low in let h2 = in_t.low in let h3 = held.high in let h4 = lies.high in omega (arith, ints, fe, h1, h2, h3, h4, hi);
        high = let h1 = near.high in let h2 = in_t.high in let h3 = held.low in let h4 = lies.low in omega (arith, ints, fe, h1, h2, h3, h4, lo);
      }

  -- an instance there, found here so much further right and up
  from_moved : (dx dy ex ey : ℤ) (k : Standing sm) → ex +ℤ dx ≡ pos 0 → ey +ℤ dy ≡ pos 0 → (bits : BitCells) (cell : List ℕ) (found : beside.StandsMoved s.plan s.kit bits f ex ey (role sm.plan k.leaf) cell k.place) → StandsHere s sm dx dy k
  from_moved dx dy ex ey k zx zy bits cell found = record { here = record { leaf = found.leaf; has = found.has; place = moved_place ex ey k.place; stands = found.stands }; same_role = found.same_role; at = back_there k.place } where
    go : (x e d : ℤ) → e +ℤ d ≡ pos 0 → x ≡ (x +ℤ e) +ℤ d
    go x e d z = omega (arith, ints, z)

    back_there : (q : Place) → q ≡ moved_place dx dy (moved_place ex ey q)
    back_there q = let ax = go q.at.x ex dx zx in let ay = go q.at.y ey dy zy in λ t. record { orient = q.orient; at = record { x = ax t; y = ay t } }

  one_left : HaveOneLeftPart s.plan sm.plan
  one_left = record { groups = refl; col_bits = refl; bank_bits = refl }

  wide_row : 1 ≤ wpr
  wide_row = power_low s.plan.col_bits

  none_of : (m w : ℕ) → 1 ≤ w → m * w ≡ 0 → m ≡ 0
  none_of zero w some none = refl
  none_of (suc m) w some none = let t = one_unit (suc m) w (omega arith) in absurd (omega (arith, t, some, none))

  away : (x y d : ℤ) → x +ℤ d ≡ y → (x -ℤ y) +ℤ d ≡ pos 0
  away x y d e = omega (arith, ints, e)

  up_away : (x y : ℤ) → (x -ℤ y) +ℤ (y -ℤ x) ≡ pos 0
  up_away x y = omega (arith, ints)

  up_to : (x y : ℤ) → y ≡ x +ℤ (y -ℤ x)
  up_to x y = omega (arith, ints)

  wider : (x y d : ℤ) (w : ℕ) → x +ℤ d ≡ y → y +ℤ pos w ≡ (x +ℤ pos w) +ℤ d
  wider x y d w e = omega (arith, ints, e)

  abbrev right : ℕ → ℤ
  right m = right_by s.plan s.kit f g b m

  abbrev up_columns : ℤ
  up_columns = columns_up f g

  abbrev up_slices : ℤ
  up_slices = slices_up f g

  high_up : (y z d : ℤ) (h : ℕ) → y +ℤ d ≡ z → z +ℤ pos h ≡ (y +ℤ pos h) +ℤ d
  high_up y z d h e = omega (arith, ints, e)

  -- What stands beside a column, or in front of the first, has its counterpart as many slices before
  beside_counter : (c m : ℕ) → IsAmongFew (columns_of s.plan) (window.word * wpr) c (m * wpr) → (j : Standing s) → (leaf_bank j.leaf ≡ b) × ((IsOfColumns j.leaf × IsNext c (number_of j.leaf)) ⊎ (IsOfFronts j.leaf × (c ≡ 0))) → Counted m (right m) up_columns j
  beside_counter c m k j (bank, inl column) =
      let t = beside_few (columns_of s.plan) (window.word * wpr) c (m * wpr) (number_of j.leaf) k column.1 (column_below s.plan j.leaf column.0 j.has) in
      in_bank connections s by reach is window i j m up_columns bank (column_found connections s by reach is window j column.0 t.0 m t.1 t.2)
  beside_counter c m k j (bank, inr front) =
      let e = k.sum in
      let z = front.1 in
      let none = none_of m wpr wide_row (omega (arith, e, z)) in
      subst (λ (l : ℕ). Counted l (right l) up_columns j) (sym none) (in_bank connections s by reach is window i j 0 up_columns bank (front_found connections s by reach is window j front.0))

  upper : (f.precharge_y +ℤ up_columns) ≡ g.precharge_y
  upper = precharge_up s.plan s.kit s.wire s.tracks window.tracks f g window.word window.write window.masks is.source.drawn.stands window.source.drawn.stands is.written window.size.written

  column_whole_at : (of : IsOfColumns i.leaf) (m : ℕ) → IsAmongFew (columns_of s.plan) (window.word * wpr) (number_of i.leaf) (m * wpr) → IsWholeThere connections s sm i p
  column_whole_at of m k =
      let c = number_of i.leaf in
      let lt = column_below s.plan i.leaf of i.has in
      let zone_is = column_seat s.plan s.kit f i.leaf i.place of in
      let z = column_zone s.plan s.kit f b c in
      let there = column_zone sm.plan s.kit g b k.d in
      let lies = subst (λ (w : Zone). LiesNear by w a.rect) zone_is (shape_near connections s by reach is i inner a of_i) in
      let over = column_right s.plan s.kit s.wire s.tracks window.tracks f g window.word window.write window.masks is.source.drawn.stands window.source.drawn.stands is.written window.size.written b c k.d m k.sum in
      whole_of m (right m) up_columns (column_found connections s by reach is window i of k.d m k.sum k.inside)
      (λ j near. beside_counter c m k j (beside_is b c j.leaf (beside_column s.plan s.kit f reach n b c is.short.bitcell lt j.leaf j.place j.has (subst (AreNearZones reach (zone_at connections s by reach is j)) zone_is near))))
      z lies there (moved_near (right m) up_columns z there lies (sym over) (wider z.left there.left (right m) (s.kit.width Bitcell) over) (up_to f.column_y g.column_y) (high_up f.precharge_y g.precharge_y up_columns (s.kit.height Precharge) upper))
      (λ k2 near2. from_moved (right m) up_columns (right_of s.plan s.kit f sm.plan g b c k.d) (up_of f g) k2 (away z.left there.left (right m) over) (up_away f.column_y g.column_y) (Alike []) (leaf_cell sm.plan s.kit (Alike []) k2.leaf)
      (columns_are_near_alike s.plan sm.plan s.kit [] s.wire f g reach one_left is.source.drawn.laid window.source.drawn.laid is.short b c k.d (edge_of (columns_of s.plan) (window.word * wpr) c (m * wpr) k lt) k2.leaf k2.place k2.has k2.stands near2))

  pub column_whole : IsOfColumns i.leaf → IsWholeThere connections s sm i p
  column_whole of = let q = columns_few connections s by reach is window (number_of i.leaf) (column_below s.plan i.leaf of i.has) in column_whole_at of q.0 q.1

  some_columns : 0 < columns_of s.plan
  some_columns = let t = one_unit s.plan.word_size wpr (let w = is.words in omega (arith, w)) in let w = wide_row in omega (arith, t, w)

  front_whole_at : (of : IsOfFronts i.leaf) (m : ℕ) → IsAmongFew (columns_of s.plan) (window.word * wpr) 0 (m * wpr) → IsWholeThere connections s sm i p
  front_whole_at of m k =
      let e = k.sum in
      let zone_is = front_seat s.plan s.kit f i.leaf i.place of in
      let z = front_zone s.plan s.kit f b in
      let there = front_zone sm.plan s.kit g b in
      let lies = subst (λ (w : Zone). LiesNear by w a.rect) zone_is (shape_near connections s by reach is i inner a of_i) in
      let none = none_of m wpr wide_row (omega (arith, e)) in
      let stands = is.source.drawn.stands in
      let stands_there = window.source.drawn.stands in
      let start = row_right s.plan s.kit s.wire s.tracks window.tracks f g window.word window.write window.masks stands stands_there is.written window.size.written b in
      let end = front_right s.plan s.kit s.wire s.tracks window.tracks f g window.word window.write window.masks stands stands_there is.written window.size.written b (drive_width s.plan s.kit) in
      let first = column_right s.plan s.kit s.wire s.tracks window.tracks f g window.word window.write window.masks stands stands_there is.written window.size.written b 0 0 0 (nothing wpr) in
      subst (λ (l : ℕ). Counted l (right l) up_columns i → IsWholeThere connections s sm i p) (sym none)
      (λ own. whole_of 0 (right 0) up_columns own
      (λ j near. beside_counter 0 0 (subst (λ (l : ℕ). IsAmongFew (columns_of s.plan) (window.word * wpr) 0 (l * wpr)) none k) j (beside_is b 0 j.leaf (beside_front s.plan s.kit f reach n b is.short.bitcell j.leaf j.place j.has (subst (AreNearZones reach (zone_at connections s by reach is j)) zone_is near))))
      z lies there (moved_near (right 0) up_columns z there lies (sym start) (sym end) (up_to f.column_y g.column_y) (high_up f.precharge_y g.precharge_y up_columns (s.kit.height Precharge) upper))
      (λ k2 near2. from_moved (right 0) up_columns (right_of s.plan s.kit f sm.plan g b 0 0) (up_of f g) k2 (away (bank_x f b (column_x s.plan s.kit f 0)) (bank_x g b (column_x sm.plan s.kit g 0)) (right 0) first) (up_away f.column_y g.column_y) (Alike []) (leaf_cell sm.plan s.kit (Alike []) k2.leaf)
      (fronts_are_near_alike s.plan sm.plan s.kit [] s.wire f g reach one_left is.source.drawn.laid window.source.drawn.laid is.short b (zero_edge (edge_of (columns_of s.plan) (window.word * wpr) 0 (m * wpr) k some_columns) (omega (arith, e))) k2.leaf k2.place k2.has k2.stands near2)))
      (subst (λ (l : ℕ). Counted l (right l) up_columns i) (sym none) (front_found connections s by reach is window i of))
    where
      nothing : (w : ℕ) → 0 ≡ 0 + 0 * w
      nothing w = omega arith

      zero_edge : AreAtOneEdge (columns_of s.plan) 0 (columns_of sm.plan) k.d → k.d ≡ 0 → AreAtOneEdge (columns_of s.plan) 0 (columns_of sm.plan) 0
      zero_edge h z = subst (AreAtOneEdge (columns_of s.plan) 0 (columns_of sm.plan)) z h

  pub front_whole : IsOfFronts i.leaf → IsWholeThere connections s sm i p
  front_whole of = let q = columns_few connections s by reach is window 0 some_columns in front_whole_at of q.0 q.1

  slice_whole_at : (of : IsOfSlices i.leaf) (m : ℕ) → IsAmongFew s.plan.word_size window.word (number_of i.leaf) m → IsWholeThere connections s sm i p
  slice_whole_at of m k =
      let c = number_of i.leaf in
      let lt = slice_below s.plan i.leaf is.written of i.has in
      let zone_is = slice_seat s.plan s.kit f i.leaf i.place of in
      let z = slice_zone s.plan s.kit f b c in
      let there = slice_zone sm.plan s.kit g b k.d in
      let lies = subst (λ (w : Zone). LiesNear by w a.rect) zone_is (shape_near connections s by reach is i inner a of_i) in
      let stands = is.source.drawn.stands in
      let stands_there = window.source.drawn.stands in
      let sums = slice_sum s.plan s.kit s.wire s.tracks window.tracks f g window.word window.write window.masks stands stands_there is.written window.size.written c k.d m wpr k.sum in
      let over = column_right s.plan s.kit s.wire s.tracks window.tracks f g window.word window.write window.masks stands stands_there is.written window.size.written b (c * wpr) (k.d * wpr) m sums in
      whole_of m (right m) up_slices (slice_found connections s by reach is window i of k.d m k.sum k.inside)
      (λ j near.
      let bs = beside_slice_is b c j.leaf (beside_slice s.plan s.kit f reach n b c is.short.bitcell is.written lt j.leaf j.place j.has (subst (AreNearZones reach (zone_at connections s by reach is j)) zone_is near)) in
      let t = beside_few s.plan.word_size window.word c m (number_of j.leaf) k bs.1.1 (slice_below s.plan j.leaf is.written bs.1.0 j.has) in
      in_bank connections s by reach is window i j m up_slices bs.0 (slice_found connections s by reach is window j bs.1.0 t.0 m t.1 t.2))
      z lies there (moved_near (right m) up_slices z there lies (sym over) (wider z.left there.left (right m) (wpr * s.kit.width Bitcell) over) (up_to f.write_y g.write_y) channel_up)
      (λ k2 near2. from_moved (right m) up_slices (slice_right_of s.plan s.kit f sm.plan g b c k.d) (f.write_y -ℤ g.write_y) k2 (away z.left there.left (right m) over) (up_away f.write_y g.write_y) (Alike []) (leaf_cell sm.plan s.kit (Alike []) k2.leaf)
      (slices_are_near_alike s.plan sm.plan s.kit [] s.wire f g reach one_left is.source.drawn.laid window.source.drawn.laid is.short b c k.d (edge_of s.plan.word_size window.word c m k lt) k2.leaf k2.place k2.has k2.stands near2))
    where
      channel_up : column_channel_y s.kit g ≡ column_channel_y s.kit f +ℤ up_slices
      channel_up = go f.sense_y g.sense_y up_slices (s.kit.height Sense) (sense_up s.plan s.kit s.wire s.tracks window.tracks f g window.word window.write window.masks is.source.drawn.stands window.source.drawn.stands is.written window.size.written) where
        go : (x y d : ℤ) (h : ℕ) → x +ℤ d ≡ y → y +ℤ pos h ≡ (x +ℤ pos h) +ℤ d
        go x y d h e = omega (arith, ints, e)

  pub slice_whole : IsOfSlices i.leaf → IsWholeThere connections s sm i p
  slice_whole of = let q = among_few s.plan.word_size window.word (number_of i.leaf) (slice_below s.plan i.leaf is.written of i.has) (few connections s by reach is window) in slice_whole_at of q.0 q.1
