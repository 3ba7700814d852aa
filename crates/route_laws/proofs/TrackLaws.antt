-- The tracks of the column choices: no two share one, and one of them has the lowest.
use Rattle.std.proofs.Common.{◌≡◌, ◌≢◌, ◌⊎◌, inl, inr, ℕ, zero, suc, ◌+◌, ◌-◌, ◌*◌, ◌<◌, ◌≤◌, ℤ, pos, ◌+ℤ◌, ◌-ℤ◌, ◌*ℤ◌, ◌≤ℤ◌, ◌<ℤ◌, List, ◌++◌, length, Some, refl, sym, ap, subst, ◌∙◌, arith}
use Rattle.std.specs.Prelude.{slice_get}
use Rattle.std.proofs.Math.Nat.{mod-eq_of_lt}
use Rattle.std.proofs.lemmas.Int.{ints, by_lt_z}
use Rattle.std.proofs.lemmas.Bool.{cases_order}
use Rattle.std.proofs.lemmas.Option.{same_Some, slice_get_within}
use Rattle.cell_roles.specs.declared.role.Role.TheVariants.{Mux, Tie, Sense}
use Rattle.tech_rules.specs.declared.tech.Wire.{Wire}
use Rattle.wire_drawing.specs.Drawing.{pitch}
use Rattle.tech_rules.specs.Facts.{AreSizes}
use Rattle.channel_router.specs.declared.channel.Channel.{Channel}
use Rattle.channel_router.specs.declared.channel.Interval.{Interval}
use Rattle.channel_router.specs.declared.channel.Routed.{Routed}
use Rattle.channel_router.specs.Channel.{IsPinOf, places}
use Rattle.channel_router.specs.Intervals.{AreIntervals, IsIntervalOf}
use Rattle.channel_router.specs.Tracks.{HasTrack, IsTakenBefore, IsBusy, IsLowest}
use Rattle.channel_router.specs.Wires.{channel_height, track_y}
use Rattle.channel_router.proofs.PinListLaws.{pin_in_both, pin_left, pin_right}
use Rattle.sram_netlist.specs.Organization.{Organization, words_per_row, power_of_two}
use Rattle.leaf_shapes.proofs.PinLaws.{exists_at}
use Rattle.macro_layout.specs.LayoutKit.{LayoutKit}
use Rattle.macro_layout.specs.Places.{Floorplan, columns_x, bit_width, drive_width}
use Rattle.macro_layout.specs.Floorplan.{choice_count, column_channel_y}
use Rattle.macro_layout.specs.Pins.{IsRailOf, column_nets}
use Rattle.macro_layout.specs.Channels.{Numbered, MeetsColumnTop, MeetsColumnBottom, IsColumnChannel, IsTrunkAt}
use Rattle.port_data.specs.Column.{IsBankFloorplan, IsColumnRouted}
use Rattle.port_data.specs.declared.lines.LineEnds.{LineEnds}
use Rattle.port_data.specs.Pins.{columns_in, column_ends, sense_ends}
use Rattle.port_data.proofs.MeetLaws.{IsOfLines, IsColumnLine, IsColumnChoice, IsChoiceExit}
use Rattle.port_data.proofs.TopLaws.{choice_meets, meets_top}
use Rattle.port_data.proofs.SenseLaws.{meets_sense}
use Rattle.port_data.proofs.ExitLaws.{exit_meets, meets_exit}
use Rattle.port_data.proofs.NetLaws.{nets_long}
use Rattle.route_laws.proofs.ColumnLaws.{HasPinsInCells}
use Rattle.spacing_laws.proofs.BankLaws.{product_rises, product_suc}
use Rattle.route_laws.proofs.TopLaws.{pitch_is}

-- so many tracks

pub some_pitch : (wire : Wire) → AreSizes wire → (q : ℕ) → pitch wire ≡ pos q → 0 < q
some_pitch wire sizes q e = let a = sizes.width.from in let b = sizes.space.from in omega (arith, ints, a, b, e)

one_factor : (m n q : ℕ) → 0 < q → m * q ≡ n * q → m ≡ n
one_factor m n q some e = elim (cases_order m n) [
  | inl same ↦ same
  | inr (inl less) ↦ let r = product_rises (m + 1) n q (omega (arith, less)) in let s = product_suc m q in absurd (omega (arith, r, s, e, some))
  | inr (inr more) ↦ let r = product_rises (n + 1) m q (omega (arith, more)) in let s = product_suc n q in absurd (omega (arith, r, s, e, some))
]

pub tracks_high : (wire : Wire) (q t : ℕ) → pitch wire ≡ pos q → channel_height wire t ≡ wire.space +ℤ pos (t * q)
tracks_high wire q t e = ap (λ (p : ℤ). wire.space +ℤ (pos t *ℤ p)) e

pub one_height : (wire : Wire) (low : ℤ) (m n : ℕ) → AreSizes wire → low +ℤ channel_height wire m ≡ low +ℤ channel_height wire n → m ≡ n
one_height wire low m n sizes same =
    let q = pitch_is wire sizes in
    let a = tracks_high wire q.0 m q.1 in
    let b = tracks_high wire q.0 n q.1 in
    one_factor m n q.0 (some_pitch wire sizes q.0 q.1) (equal low wire.space (m * q.0) (n * q.0) ((λ i. low +ℤ sym a i) ∙ (same ∙ (λ i. low +ℤ b i))))
  where
    equal : (x y : ℤ) (m n : ℕ) → x +ℤ (y +ℤ pos m) ≡ x +ℤ (y +ℤ pos n) → m ≡ n
    equal x y m n e = omega (arith, ints, e)

-- where the intervals of a column channel lie

module _ (plan : Organization) (kit : LayoutKit) (wire : Wire) (f : Floorplan) (bank : IsBankFloorplan plan kit wire f) (has : HasPinsInCells kit) (sizes : AreSizes wire) (bits : 0 < plan.word_size) where
  abbrev x0 : ℤ
  x0 = columns_x plan kit f

  abbrev choices : ℕ
  choices = choice_count plan.col_bits

  moved_back : (x : ℤ) → x ≡ (x -ℤ x0) +ℤ x0
  moved_back x = omega (arith, ints)

  choice_words : (n k : ℕ) → k < choice_count n → (0 < n) × (k < power_of_two n)
  choice_words zero k less = absurd (omega (arith, less))
  choice_words (suc n) k less = (omega arith, less)

  many_columns : (words k : ℕ) → k < words → k < plan.word_size * words
  many_columns words k less = let e = product_rises 1 plan.word_size words (omega (arith, bits)) in let o : 1 * words ≡ words = omega arith in omega (arith, e, o, less)

  -- a choice reaches the columns
  reaches : (ch : Channel) (k : ℕ) (a : Interval) → IsColumnChannel plan kit wire f ch → IsIntervalOf (places ch) k a → k < choices → x0 ≤ℤ a.right
  reaches ch k a meant is less =
      let w = choice_words plan.col_bits k less in
      let x = pos (k * bit_width kit) +ℤ (kit.pin Mux 4 3).x1 in
      let choice : IsColumnChoice plan.col_bits kit (columns_in plan kit) k x = record { some = w.0; column = k; below = many_columns (words_per_row plan) k w.1; of_net = sym (mod-eq_of_lt w.1); at = refl } in
      let top = (meant.top k (x +ℤ x0)).1 (choice_meets plan kit f k x choice) in
      let most = is.greatest (x +ℤ x0) (pin_left (ch.top ++ ch.bottom) ch.exits k (x +ℤ x0) (pin_left ch.top ch.bottom k (x +ℤ x0) top)) in
      let in_cell = (has.begin Mux 4 3).above in
      omega (arith, ints, most, in_cell)

  -- it begins before them
  exit_before : (k q : ℕ) (x : ℤ) → pitch wire ≡ pos q → IsChoiceExit choices (drive_width plan kit) (pitch wire) k x → x <ℤ pos 0
  exit_before k q x e exit =
      let below = exit.below in
      let some = some_pitch wire sizes q e in
      let count : pos choices -ℤ pos k ≡ pos (choices - k) = omega (arith, ints, below) in
      let steps : (pos choices -ℤ pos k) *ℤ pitch wire ≡ pos ((choices - k) * q) = (λ i. count i *ℤ e i) in
      let more = product_rises 1 (choices - k) q (omega (arith, below)) in
      let single : 1 * q ≡ q = omega arith in
      let at = exit.at in
      before x (pos 0) ((pos choices -ℤ pos k) *ℤ pitch wire) ((choices - k) * q) (drive_width plan kit) at steps (omega (arith, more, single, some))
    where
      before : (x z y : ℤ) (n d : ℕ) → x ≡ pos 0 -ℤ (y +ℤ pos d) → y ≡ pos n → 0 < n → x <ℤ pos 0
      before x z y n d at e some = omega (arith, ints, at, e, some)

  begins_before : (ch : Channel) (k : ℕ) (a : Interval) → IsColumnChannel plan kit wire f ch → IsIntervalOf (places ch) k a → k < choices → a.left <ℤ x0
  begins_before ch k a meant is less =
      let q = pitch_is wire sizes in
      let x = pos 0 -ℤ (((pos choices -ℤ pos k) *ℤ pitch wire) +ℤ pos (drive_width plan kit)) in
      let exit : IsChoiceExit choices (drive_width plan kit) (pitch wire) k x = record { below = less; at = refl } in
      let pin = (meant.exits k (x +ℤ x0)).1 (exit_meets plan kit wire f bank k x exit) in
      let least = is.least (x +ℤ x0) (pin_right (ch.top ++ ch.bottom) ch.exits k (x +ℤ x0) pin) in
      let before = exit_before k q.0 x q.1 exit in
      after x x0 a.left before least
    where
      after : (x y z : ℤ) → x <ℤ pos 0 → z ≤ℤ (x +ℤ y) → z <ℤ y
      after x y z a b = omega (arith, ints, a, b)

  -- other nets begin in the columns
  in_lines : (count bit from net : ℕ) (ends : LineEnds) (x : ℤ) → pos 0 ≤ℤ ends.lo → pos 0 ≤ℤ ends.ro → IsOfLines count ends bit from net x → pos 0 ≤ℤ x
  in_lines count bit from net ends x lo ro (inl (_, at)) = omega (arith, ints, at, lo)
  in_lines count bit from net ends x lo ro (inr (_, at)) = omega (arith, ints, at, ro)

  column_lo : (n : ℕ) → pos 0 ≤ℤ (column_ends n kit).lo
  column_lo zero = (has.begin Tie 0 3).above
  column_lo (suc n) = (has.begin Mux 2 3).above

  column_ro : (n : ℕ) → pos 0 ≤ℤ (column_ends n kit).ro
  column_ro zero = (has.begin Tie 1 3).above
  column_ro (suc n) = (has.begin Mux 3 3).above

  top_behind : (net : ℕ) (x : ℤ) → IsColumnLine plan.col_bits kit (columns_in plan kit) net x ⊎ IsColumnChoice plan.col_bits kit (columns_in plan kit) net x → pos 0 ≤ℤ x
  top_behind net x (inl line) = in_lines (choice_count plan.col_bits) _ _ net (column_ends plan.col_bits kit) x (column_lo plan.col_bits) (column_ro plan.col_bits) line.is
  top_behind net x (inr choice) = let at = choice.at in let in_cell = (has.begin Mux 4 3).above in omega (arith, ints, at, in_cell)

  begins_behind : (ch : Channel) (k : ℕ) (a : Interval) → IsColumnChannel plan kit wire f ch → IsIntervalOf (places ch) k a → choices ≤ k → x0 ≤ℤ a.left
  begins_behind ch k a meant is more = by (pin_in_both (ch.top ++ ch.bottom) ch.exits k a.left is.begins)
    where
      y : ℤ
      y = a.left -ℤ columns_x plan kit f

      back : a.left ≡ (a.left -ℤ columns_x plan kit f) +ℤ columns_x plan kit f
      back = omega (arith, ints)

      behind : pos 0 ≤ℤ (a.left -ℤ columns_x plan kit f) → columns_x plan kit f ≤ℤ a.left
      behind h = omega (arith, ints, h)

      inner : IsPinOf ch.top k a.left ⊎ IsPinOf ch.bottom k a.left → columns_x plan kit f ≤ℤ a.left
      inner (inl top) = behind (top_behind k y (meets_top plan kit f k y (subst (λ (x : ℤ). Numbered (column_nets plan) (MeetsColumnTop plan kit f) k x) back ((meant.top k a.left).0 top))))
      inner (inr bottom) =
          let line = meets_sense plan kit f k y (subst (λ (x : ℤ). Numbered (column_nets plan) (MeetsColumnBottom plan kit f) k x) back ((meant.bottom k a.left).0 bottom)) in
          behind (in_lines (choice_count plan.col_bits) line.bit ((line.bit * words_per_row plan) * bit_width kit) k (sense_ends kit) y ((has.begin Sense 0 1).above) ((has.begin Sense 1 1).above) line.is)

      by : IsPinOf (ch.top ++ ch.bottom) k a.left ⊎ IsPinOf ch.exits k a.left → columns_x plan kit f ≤ℤ a.left
      by (inl sides) = inner (pin_in_both ch.top ch.bottom k a.left sides)
      by (inr exit) = let below = (meets_exit plan kit wire f bank k y (subst (λ (x : ℤ). Numbered (column_nets plan) (IsRailOf plan wire f 0) k x) back ((meant.exits k a.left).0 exit))).below in absurd (omega (arith, below, more))

  -- Two choices on one track

  before_one : (track : List ℕ) (intervals : List Interval) (ch : Channel) (i j t : ℕ) (a b : Interval) → IsColumnChannel plan kit wire f ch → AreIntervals ch intervals → IsLowest (pitch wire) intervals track → i < choices → j < choices → HasTrack intervals track i a t → HasTrack intervals track j b t
      → IsTakenBefore i a j b → ⊥
  before_one track intervals ch i j t a b meant nets lowest in_i in_j on also before =
      let gap = lowest.free j t b also i a on before in
      let right = reaches ch i a meant (nets.of_net i a on.there) in_i in
      let left = begins_before ch j b meant (nets.of_net j b also.there) in_j in
      let w = sizes.width.from in
      let s = sizes.space.from in
      omega (arith, ints, gap, right, left, w, s)

  never_both : (track : List ℕ) (intervals : List Interval) (ch : Channel) (i j t : ℕ) (a b : Interval) → IsColumnChannel plan kit wire f ch → AreIntervals ch intervals → IsLowest (pitch wire) intervals track → i < choices → j < choices → i ≢ j → HasTrack intervals track i a t → HasTrack intervals track j b t → ⊥
  never_both track intervals ch i j t a b meant nets lowest in_i in_j differ on also =
      by_lt_z {P = ⊥} a.left b.left (λ less. before_one track intervals ch i j t a b meant nets lowest in_i in_j on also (inl less))
      (λ more. by_lt_z {P = ⊥} b.left a.left (λ less. before_one track intervals ch j i t b a meant nets lowest in_j in_i also on (inl less)) (λ most. same (omega (arith, ints, more, most))))
    where
      same : a.left ≡ b.left → ⊥
      same e = elim (cases_order i j) [
        | inl one ↦ differ one
        | inr (inl less) ↦ before_one track intervals ch i j t a b meant nets lowest in_i in_j on also (inr (e, less))
        | inr (inr more) ↦ before_one track intervals ch j i t b a meant nets lowest in_j in_i also on (inr (sym e, more))
      ]

  -- the first choice's track is the lowest, or a choice that was taken before has it
  pub record HasLowestChoice (intervals : List Interval) (track : List ℕ) : Type 0 where
    pub choice : ℕ
    pub below : choice < choices
    pub interval : Interval
    pub on : HasTrack intervals track choice interval 0

  lowest_choice : (track : List ℕ) (intervals : List Interval) (ch : Channel) (k t : ℕ) (b : Interval) → IsColumnChannel plan kit wire f ch → AreIntervals ch intervals → IsLowest (pitch wire) intervals track → k < choices → HasTrack intervals track k b t → HasLowestChoice intervals track
  lowest_choice track intervals ch k zero b meant nets lowest in_k on = record { choice = k; below = in_k; interval = b; on = on }
  lowest_choice track intervals ch k (suc t) b meant nets lowest in_k on =
      let busy = lowest.lowest k (suc t) 0 b on (omega arith) in
      elim (cases_order busy.i choices) [
        | inl same ↦ absurd (late busy (omega (arith, same)) busy.before)
        | inr (inl less) ↦ record { choice = busy.i; below = less; interval = busy.a; on = busy.on }
        | inr (inr more) ↦ absurd (late busy (omega (arith, more)) busy.before)
      ]
    where
      late : (busy : IsBusy (pitch wire) intervals track k b 0) → choice_count plan.col_bits ≤ busy.i → IsTakenBefore busy.i busy.a k b → ⊥
      late busy more (inl less) =
          let left = begins_behind ch busy.i busy.a meant (nets.of_net busy.i busy.a busy.on.there) more in
          let own = begins_before ch k b meant (nets.of_net k b on.there) in_k in
          omega (arith, ints, less, left, own)
      late busy more (inr (same, _)) =
          let left = begins_behind ch busy.i busy.a meant (nets.of_net busy.i busy.a busy.on.there) more in
          let own = begins_before ch k b meant (nets.of_net k b on.there) in_k in
          omega (arith, ints, same, left, own)

  -- Of the routed channel

  module _ (routed : Routed) (stated : IsColumnRouted plan kit wire f routed) (each : length routed.track ≡ choices + 2 * plan.word_size) where
    abbrev Trunk : ℕ → ℤ → Type 0
    Trunk number y = IsTrunkAt (IsColumnChannel plan kit wire f) wire routed.tracks number y

    abbrev height_of : ℕ → ℤ
    height_of t = column_channel_y kit f +ℤ channel_height wire t

    trunk_of : (k t : ℕ) → slice_get routed.track k ≡ Some t → Trunk k (height_of t)
    trunk_of k t at = (stated.trunks k (height_of t)).1 (t, at, refl)

    -- what has a track in a trunk's channel has it in the routed one
    has_in_routed : (number i t : ℕ) (y : ℤ) (a : Interval) → (trunk : Trunk number y) → HasTrack trunk.intervals trunk.track i a t → slice_get routed.track i ≡ Some t
    has_in_routed number i t y a trunk on =
        let low = trunk.routed.meant.low in
        let told = (stated.trunks i (track_y trunk.channel.low wire t)).0 (record { channel = trunk.channel; intervals = trunk.intervals; track = trunk.track; routed = trunk.routed; interval = a; on = t; has = on; at = refl }) in
        let same : t ≡ told.0 = one_height wire (column_channel_y kit f) t told.0 sizes (ap (λ (z : ℤ). z +ℤ channel_height wire t) (sym low) ∙ told.2) in
        told.1 ∙ ap (λ (n : ℕ). Some n) (sym same)

    -- and the other way round
    has_in_trunk : (number i t : ℕ) (y : ℤ) → (trunk : Trunk number y) → slice_get routed.track i ≡ Some t → (a : Interval) × HasTrack trunk.intervals trunk.track i a t
    has_in_trunk number i t y trunk at =
        let within = slice_get_within routed.track i t at in
        let counted = trunk.routed.meant.nets in
        let long = trunk.routed.nets.each in
        let tracked = trunk.routed.lowest.each in
        let sized = nets_long plan in
        let a = exists_at trunk.intervals i (omega (arith, within, each, counted, long, sized)) in
        let u = exists_at trunk.track i (omega (arith, within, each, counted, long, sized, tracked)) in
        let mine = has_in_routed number i u.0 y a.0 trunk (record { there = a.1; on = u.1 }) in
        let same : u.0 ≡ t = same_Some u.0 t (sym mine ∙ at) in
        (a.0, record { there = a.1; on = u.1 ∙ ap (λ (n : ℕ). Some n) same })

    pub tracks_differ : (k l t : ℕ) → k < choices → l < choices → k ≢ l → slice_get routed.track k ≡ Some t → slice_get routed.track l ≡ Some t → ⊥
    tracks_differ k l t in_k in_l differ at also =
        let trunk = trunk_of k t at in
        let a = has_in_trunk k k t (height_of t) trunk at in
        let b = has_in_trunk k l t (height_of t) trunk also in
        never_both trunk.track trunk.intervals trunk.channel k l t a.0 b.0 trunk.routed.meant trunk.routed.nets trunk.routed.lowest in_k in_l differ a.1 b.1

    pub one_lowest : (k t : ℕ) → k < choices → slice_get routed.track k ≡ Some t → (l : ℕ) × (l < choices) × (slice_get routed.track l ≡ Some 0)
    one_lowest k t in_k at =
        let trunk = trunk_of k t at in
        let a = has_in_trunk k k t (height_of t) trunk at in
        let r = lowest_choice trunk.track trunk.intervals trunk.channel k t a.0 trunk.routed.meant trunk.routed.nets trunk.routed.lowest in_k a.1 in
        (r.choice, r.below, has_in_routed k r.choice 0 (height_of t) r.interval trunk r.on)
