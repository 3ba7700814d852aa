-- No taps of a bank are too close where a kit is good.
use Rattle.std.proofs.Common.{◌≡◌, ℕ, ◌+◌, ◌*◌, ◌<◌, ◌≤◌, ℤ, pos, ◌+ℤ◌, ◌-ℤ◌, ◌≤ℤ◌, List, ◌∷◌, ◌++◌, Some, refl, sym, ap, subst, ◌∙◌, arith}
use Rattle.std.specs.Prelude.{slice_get, slice_index}
use Rattle.std.proofs.lemmas.Int.{ints}
use Rattle.std.proofs.lemmas.Option.{slice_get-get_or, get_or_from_slice_get}
use Rattle.cell_roles.specs.declared.role.Role.TheVariants.{Precharge, Sense, Write}
use Rattle.wire_drawing.specs.declared.route.Tap.{Tap}
use Rattle.tech_rules.specs.declared.tech.Wire.{Wire}
use Rattle.wire_drawing.specs.Drawing.{pitch}
use Rattle.channel_router.specs.declared.channel.Routed.{Routed}
use Rattle.channel_router.specs.Wires.{channel_height}
use Rattle.rail_bus.specs.Rails.{tap_ys}
use Rattle.sram_netlist.specs.Organization.{Organization, IsWritten, bank_rows}
use Rattle.sram_netlist.specs.InstanceList.{tabulate}
use Rattle.leaf_tables.specs.declared.kit.Kit.{Kit}
use Rattle.leaf_tables.specs.Kits.{IsKit}
use Rattle.macro_layout.specs.LayoutKit.{LayoutKit}
use Rattle.macro_layout.specs.Places.{Floorplan}
use Rattle.macro_layout.specs.Floorplan.{Tracks, IsFloorplan, line_count, choice_count, write_height, column_role}
use Rattle.floorplan.specs.LayoutOfKit.{layout_kit}
use Rattle.floorplan.proofs.SideLaws.{height_is}
use Rattle.port_data.specs.Column.{IsColumnOf, IsBankFloorplan}
use Rattle.bank_layout.specs.BankTaps.{sense_tap, precharge_tap, choice_tap, channel_low, AreBankTaps, AreTapsClose}
use Rattle.bank_layout.proofs.PinLaws.{inside_leaf}
use Rattle.spacing_laws.proofs.CloseLaws.{AreNear, HasNear, HasClose, of_close, to_close}
use Rattle.spacing_laws.proofs.BankLaws.{product_rises}
use Rattle.route_laws.proofs.TapLaws.{AreLayers, taps_move, rows_lows}
use Rattle.route_laws.proofs.TopLaws.{pitch_is}
use Rattle.sram_netlist.proofs.Bounds.{written_all}
use Rattle.route_laws.proofs.KindLaws.{model}
use Rattle.kit_routes.proofs.KitLaws.{pins_in_cells}
use Rattle.route_laws.proofs.TrackLaws.{tracks_high, tracks_differ, one_lowest}
use Rattle.kit_routes.proofs.FaultLaws.{IsLaidApart, wire_sizes}
use Rattle.route_laws.proofs.BankTapLaws.{taps_with, sense_y, precharge_up, low_of, heights_are, array_is, all_choices, choice_ys, choice_up_to, all_below, choices_apart, near_one, one_near, lowest_alone, rows_up, up_from}

bank_stands : (plan : Organization) (kit : LayoutKit) (wire : Wire) (tracks : Tracks) (f : Floorplan) → IsFloorplan plan kit wire tracks f → IsBankFloorplan plan kit wire f
bank_stands plan kit wire tracks f stands = record { row_x = stands.row_x; sense_y = stands.sense_y }

module _ (kit : Kit) (is : IsKit kit) (plan : Organization) (written : IsWritten plan) (column : Routed) (of : IsColumnOf kit plan column) (tracks : ℕ) (f : Floorplan)
    (stands : IsFloorplan plan (layout_kit kit) is.wire (record { main = tracks; column = column.tracks }) f) (taps : List Tap) (a : AreBankTaps kit.leaves plan (layout_kit kit) is.wire f column.track taps) where
  abbrev lk : LayoutKit
  lk = layout_kit kit

  abbrev wire : Wire
  wire = is.wire

  abbrev choices : ℕ
  choices = choice_count plan.col_bits

  abbrev b : ℤ
  b = f.array_y -ℤ f.write_y

  abbrev m : ℕ
  m = lk.height (column_role plan.col_bits)

  tracked : (k : ℕ) → k < choices → slice_get column.track k ≡ Some (slice_index column.track k)
  tracked k less = let each = of.each in slice_get-get_or column.track k 0 (omega (arith, less, each))

  below : (k : ℕ) → k < choices → slice_index column.track k < column.tracks
  below k less = (of.near is.wire is.wired).is.count.below k (slice_index column.track k) (tracked k less)

  some_track : 0 < column.tracks
  some_track =
      let each = of.each in
      let words = of.words in
      let less = (of.near is.wire is.wired).is.count.below 0 (slice_index column.track 0) (slice_get-get_or column.track 0 0 (omega (arith, each, words))) in
      omega (arith, less)

  array : (q : ℕ) → pitch is.wire ≡ pos q → f.array_y -ℤ f.write_y ≡ (low_of (layout_kit kit) +ℤ (is.wire.space +ℤ pos (column.tracks * q))) +ℤ pos ((layout_kit kit).height (column_role plan.col_bits))
  array q e =
      array_is f.write_y f.sense_y f.column_y f.array_y (channel_height is.wire column.tracks) (write_height plan (layout_kit kit)) ((layout_kit kit).height Write) ((layout_kit kit).height Sense) ((layout_kit kit).height (column_role plan.col_bits))
      stands.sense_y (written_all plan.write_size ((layout_kit kit).height Write) written) stands.column_y stands.array_y
      ∙ ap (λ (z : ℤ). (low_of (layout_kit kit) +ℤ z) +ℤ pos ((layout_kit kit).height (column_role plan.col_bits))) (tracks_high is.wire q column.tracks e)

  sense_low : sense_y (layout_kit kit) a.sense ≤ℤ low_of (layout_kit kit)
  sense_low =
      let p = a.is_sense in
      let inside = inside_leaf kit Sense p.leaf 3 a.sense is p.there p.at in
      let high = inside.high in
      let tall = a.sense.rect.tall in
      let side = (height_is kit is Sense p.leaf p.there).is in
      omega (arith, ints, high, tall, side)

  layers : (q : ℕ) → pitch is.wire ≡ pos q → AreLayers (pitch is.wire) (f.array_y -ℤ f.write_y) (sense_y (layout_kit kit) a.sense) (precharge_up plan (layout_kit kit) a.precharge) (rows_lows plan.groups a.of_rows.leaves (bank_rows plan)) (all_choices is.wire (low_of (layout_kit kit)) column.track choices)
  unfolding choice_ys
  layers q e =
      let at = array q e in
      let p = a.is_precharge in
      let up = (inside_leaf kit Precharge p.leaf 2 a.precharge is p.there p.at).low in
      let s = sense_low in
      let some = some_track in
      let more = product_rises 1 column.tracks q (omega (arith, some)) in
      let single : 1 * q ≡ q = omega arith in
      record {
        rows = up_from (f.array_y -ℤ f.write_y) (rows_lows plan.groups a.of_rows.leaves (bank_rows plan)) (rows_up kit is plan.groups a.of_rows.leaves (bank_rows plan) a.of_rows.of);
        above = omega (arith, ints, up);
        sense = sense_up at s e more single;
        choices = all_below ((f.array_y -ℤ f.write_y) -ℤ pitch is.wire) (λ k. low_of (layout_kit kit) +ℤ channel_height is.wire (slice_index column.track k)) 0 choices
            (λ k from to. choice_up_to is.wire (low_of (layout_kit kit)) (f.array_y -ℤ f.write_y) q column.tracks ((layout_kit kit).height (column_role plan.col_bits)) (slice_index column.track k) e (tracks_high is.wire q (slice_index column.track k) e) at (below k (omega (arith, to))));
        apart = choices_apart is.wire (low_of (layout_kit kit)) q choices column.track e
            (λ k l in_k in_l differ same. tracks_differ plan (layout_kit kit) is.wire f (bank_stands plan (layout_kit kit) is.wire _ f stands) (pins_in_cells kit is) (wire_sizes kit is) of.words column
            (of.stated is.wire f is.wired (bank_stands plan (layout_kit kit) is.wire _ f stands)) of.each k l (slice_index column.track k) in_k in_l differ (tracked k in_k) (tracked l in_l ∙ ap (λ (t : ℕ). Some t) (sym same)));
      }
    where
      sense_up : f.array_y -ℤ f.write_y ≡ (low_of (layout_kit kit) +ℤ (is.wire.space +ℤ pos (column.tracks * q))) +ℤ pos ((layout_kit kit).height (column_role plan.col_bits)) → sense_y (layout_kit kit) a.sense ≤ℤ low_of (layout_kit kit)
          → pitch is.wire ≡ pos q → 1 * q ≤ column.tracks * q → 1 * q ≡ q → (sense_y (layout_kit kit) a.sense +ℤ pitch is.wire) ≤ℤ (f.array_y -ℤ f.write_y)
      sense_up at s e more single = let w = (wire_sizes kit is).space.from in omega (arith, ints, at, s, e, more, single, w)

-- The model's taps

model_taps : (kit : Kit) (is : IsKit kit) (plan : Organization) (f g : Floorplan) (track other : List ℕ) (taps : List Tap) → (a : AreBankTaps kit.leaves plan (layout_kit kit) is.wire f track taps)
    → AreBankTaps kit.leaves (model plan) (layout_kit kit) is.wire g other (taps_with (model plan) (layout_kit kit) is.wire g other a.of_rows.leaves a.sense a.precharge)
model_taps kit is plan f g track other taps a = record {
  rows = _;
  of_rows = record { leaves = a.of_rows.leaves; of = a.of_rows.of; are = refl };
  sense = a.sense;
  is_sense = a.is_sense;
  precharge = a.precharge;
  is_precharge = a.is_precharge;
  are = refl;
}

same_lowest : (kit : Kit) (is : IsKit kit) (plan : Organization) (laid : IsLaidApart kit (model plan) is.wire) (track : List ℕ) (s : ℤ) → s ≤ℤ low_of (layout_kit kit)
    → HasNear (pitch is.wire) s (all_choices is.wire (low_of (layout_kit kit)) track (choice_count plan.col_bits)) → HasNear (pitch is.wire) s (all_choices is.wire (low_of (layout_kit kit)) laid.column.track (choice_count plan.col_bits))
unfolding choice_ys
same_lowest kit is plan laid track s low h =
    let q = pitch_is is.wire (wire_sizes kit is) in
    let L = low_of (layout_kit kit) in
    let r = near_one (pitch is.wire) s (λ k. L +ℤ channel_height is.wire (slice_index track k)) 0 (choice_count plan.col_bits) h in
    let to = r.to in
    let none = lowest_alone is.wire L s q.0 (slice_index track r.at) (wire_sizes kit is) q.1 low r.near in
    let each = laid.of.each in
    let bank = bank_stands (model plan) (layout_kit kit) is.wire _ laid.floorplan laid.stands in
    let first : slice_get laid.column.track 0 ≡ Some (slice_index laid.column.track 0) = slice_get-get_or laid.column.track 0 0 (omega (arith, each)) in
    let l = one_lowest (model plan) (layout_kit kit) is.wire laid.floorplan bank (pins_in_cells kit is) (wire_sizes kit is) laid.of.words laid.column (laid.of.stated is.wire laid.floorplan is.wired bank) laid.of.each 0 (slice_index laid.column.track 0) (omega (arith, to)) first in
    let zero_is : slice_index laid.column.track l.0 ≡ 0 = get_or_from_slice_get laid.column.track l.0 0 0 l.2 in
    let in_l = l.1 in
    one_near (pitch is.wire) s (λ k. L +ℤ channel_height is.wire (slice_index laid.column.track k)) 0 (choice_count plan.col_bits) l.0 (omega arith) (omega (arith, in_l))
    (subst (λ (t : ℕ). AreNear (pitch is.wire) s (L +ℤ channel_height is.wire t)) (none ∙ sym zero_is) r.near)

-- No taps are too close.
pub taps_apart : (kit : Kit) (is : IsKit kit) (plan : Organization) (column : Routed) (tracks : ℕ) (f : Floorplan) (first second : ℤ) → IsWritten plan → IsWritten (model plan) → IsLaidApart kit (model plan) is.wire → IsColumnOf kit plan column
    → IsFloorplan plan (layout_kit kit) is.wire (record { main = tracks; column = column.tracks }) f → AreTapsClose kit.leaves plan (layout_kit kit) is.wire f column.track first second → ⊥
taps_apart kit is plan column tracks f first second written other laid of stands close =
    let lk = layout_kit kit in
    let wire = is.wire in
    let a = close.are in
    let g = laid.floorplan in
    let q = pitch_is wire (wire_sizes kit is) in
    let C = choice_count plan.col_bits in
    let s = sense_y lk a.sense in
    let e = precharge_up plan lk a.precharge in
    let zs = rows_lows plan.groups a.of_rows.leaves (bank_rows plan) in
    let mine = heights_are plan lk wire _ f column.track a.of_rows.leaves a.sense a.precharge stands (written_all plan.write_size (lk.height Write) written) in
    let theirs = heights_are (model plan) lk wire _ g laid.column.track a.of_rows.leaves a.sense a.precharge laid.stands (written_all (model plan).write_size (lk.height Write) other) in
    let whole : close.taps ≡ taps_with plan lk wire f column.track a.of_rows.leaves a.sense a.precharge =
    a.are ∙ ap (λ (rows : List Tap). rows ++ (sense_tap plan lk f a.sense ∷ precharge_tap plan lk f a.precharge ∷ tabulate C (choice_tap wire (channel_low lk f) (line_count plan.groups + 3) column.track))) a.of_rows.are in
    let had : HasClose (pitch wire) (tap_ys close.taps) = of_close (pitch wire) (tap_ys close.taps) (first, second, close.close.close) in
    let moved_there = taps_move (pitch wire) (f.array_y -ℤ f.write_y) (g.array_y -ℤ g.write_y) s e zs (all_choices wire (low_of lk) column.track C) (all_choices wire (low_of lk) laid.column.track C)
    (layers kit is plan written column of tracks f stands close.taps a q.0 q.1)
    (same_lowest kit is plan laid column.track s (sense_low kit is plan written column of tracks f stands close.taps a))
    (subst (HasClose (pitch wire)) (ap tap_ys whole ∙ mine) had) in
    let only = laid.taps.only (taps_with (model plan) lk wire g laid.column.track a.of_rows.leaves a.sense a.precharge) (model_taps kit is plan f g column.track laid.column.track close.taps a) in
    laid.taps.apart (to_close (pitch wire) (tap_ys laid.taps.taps) (subst (λ (taps : List Tap). HasClose (pitch wire) (tap_ys taps)) only (subst (HasClose (pitch wire)) (sym theirs) moved_there)))
