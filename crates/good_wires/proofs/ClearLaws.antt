-- No cut of wires is nearer to a leaf instance's zone than the wires' space.
use Rattle.std.proofs.Common.{◌≡◌, ◌⊎◌, inl, inr, ◌∙◌, ℕ, ◌+◌, ◌*◌, ◌<◌, ◌≤◌, ℤ, pos, ◌+ℤ◌, ◌*ℤ◌, ◌≤ℤ◌, ◌<ℤ◌, ◌∷◌, sym, ap, subst, arith}
use Rattle.std.specs.Prelude.{slice_index}
use Rattle.std.proofs.Math.Nat.{mul_assoc}
use Rattle.std.proofs.lemmas.Bool.{cases_lt}
use Rattle.std.proofs.lemmas.Int.{ints, clamps}
use Rattle.std.specs.Int.{int_max}
use Rattle.or_geom.specs.declared.shape.Rect.{Rect}
use Rattle.or_geom.specs.declared.shape.Shape.{Shape}
use Rattle.or_geom.specs.declared.place.Place.{Place}
use Rattle.cell_roles.specs.declared.role.Role.TheVariants.{Inv}
use Rattle.tech_rules.specs.declared.tech.Wire.{Wire}
use Rattle.wire_drawing.specs.Drawing.{IsVia, pitch}
use Rattle.tech_rules.proofs.WireLaws.{two_margins, margin_positive}
use Rattle.shape_bins.specs.Meets.{Overlap}
use Rattle.sram_netlist.specs.Organization.{Organization, banks_of, columns_of, words_per_row}
use Rattle.sram_netlist.specs.Instances.{LeafInstance, BitAt, NandAt, DriverAt, PrechargeAt, WriteAt, SenseAt, MuxAt, TieAt, LogicAt}
use Rattle.sram_netlist.specs.InstanceList.{logic_cells}
use Rattle.sram_netlist.specs.Netlist.{logic_role}
use Rattle.macro_layout.specs.Wires.{trunk_x}
use Rattle.good_places.proofs.RowLaws.{total_split}
use Rattle.sram_netlist.specs.Membership.{HasLeafInstance}
use Rattle.macro_layout.specs.LayoutKit.{LayoutKit}
use Rattle.macro_layout.specs.Places.{Floorplan, bank_x, bit_width, drive_width, total_width, IsPlaceOf}
use Rattle.macro_layout.specs.Floorplan.{Tracks, column_channel_y}
use Rattle.good_places.specs.Leaves.{Zone, zone_of, column_zone, front_zone, slice_zone, LiesNear}
use Rattle.good_places.proofs.NumberLaws.{all_of, banks_before, times_low}
use Rattle.good_places.proofs.LaidLaws.{written_all}
use Rattle.good_wires.specs.Drawn.{IsDrawnMemory, IsDrawnWire}
use Rattle.good_wires.proofs.LevelLaws.{Levels, levels, Sides, sides, pitch_low}
use Rattle.good_wires.proofs.CutLaws.{IsMainVia, IsColumnVia, IsTapVia, on_cut}

-- the rectangle lies in the zone, grown by so much
abbrev pub IsAround : ℤ → Zone → Rect → Type 0
IsAround = λ (by : ℤ) (z : Zone) (r : Rect). LiesNear by z r

module _ (plan : Organization) (kit : LayoutKit) (wire : Wire) (tracks : Tracks) (f : Floorplan) (m : IsDrawnMemory plan kit wire tracks f) where
  l : Levels plan kit wire f
  l = levels plan kit wire tracks f m.laid.sizes m.stands

  s_of : Sides plan kit wire f
  s_of = sides plan kit wire tracks f m.laid.sizes m.stands

  abbrev offset : ℕ → ℤ
  offset b = pos b *ℤ f.bank_width

  -- Where zones lie: behind the rails of a bank, over the write cells' or the columns' lower end; or in the logic row

  pub record IsBankZone (b : ℕ) (z : Zone) : Type 0 where
    pub below : b < banks_of plan
    pub left : bank_x f b f.row_x ≤ℤ z.left
    pub right : z.right ≤ℤ bank_x f b f.bank_width

  abbrev pub ZoneKind : Zone → Type 0
  ZoneKind z = ((b : ℕ) × IsBankZone b z × (f.column_y ≤ℤ z.low)) ⊎ (((b : ℕ) × IsBankZone b z × (f.write_y ≤ℤ z.low) × (z.high ≤ℤ column_channel_y kit f)) ⊎ ((pos 0 ≤ℤ z.low) × (z.high ≤ℤ pos (kit.height Inv)) × ((z.right +ℤ wire.space) ≤ℤ trunk_x plan kit wire f)))

  same : (z : ℤ) → z ≤ℤ z
  same z = omega (arith, ints)

  pub column_in : (b c : ℕ) → b < banks_of plan → c < columns_of plan → IsBankZone b (column_zone plan kit f b c)
  column_in b c below lt = record {
    below = below;
    left = go f.row_x (offset b) (drive_width plan kit) (c * bit_width kit);
    right = up f.row_x f.bank_width (offset b) (drive_width plan kit) (c * bit_width kit) (bit_width kit) (columns_of plan * bit_width kit) (all_of c (columns_of plan) (bit_width kit) lt) s_of.bank;
  } where
    go : (row q : ℤ) (d c : ℕ) → (row +ℤ q) ≤ℤ (((row +ℤ pos d) +ℤ pos c) +ℤ q)
    go row q d c = omega (arith, ints)

    up : (row bank q : ℤ) (d c w all : ℕ) → c + w ≤ all → bank ≡ (row +ℤ pos d) +ℤ pos all → ((((row +ℤ pos d) +ℤ pos c) +ℤ q) +ℤ pos w) ≤ℤ (bank +ℤ q)
    up row bank q d c w all le e = omega (arith, ints, le, e)

  pub front_in : (b : ℕ) → b < banks_of plan → IsBankZone b (front_zone plan kit f b)
  front_in b below = record { below = below; left = same (bank_x f b f.row_x); right = up f.row_x f.bank_width (offset b) (drive_width plan kit) (columns_of plan * bit_width kit) s_of.bank } where
    up : (row bank q : ℤ) (d all : ℕ) → bank ≡ (row +ℤ pos d) +ℤ pos all → ((row +ℤ pos d) +ℤ q) ≤ℤ (bank +ℤ q)
    up row bank q d all e = omega (arith, ints, e)

  pub slice_in : (b i : ℕ) → b < banks_of plan → i < plan.word_size → IsBankZone b (slice_zone plan kit f b i)
  slice_in b i below lt = record {
    below = below;
    left = go f.row_x (offset b) (drive_width plan kit) ((i * words_per_row plan) * bit_width kit);
    right = up f.row_x f.bank_width (offset b) (drive_width plan kit) ((i * words_per_row plan) * bit_width kit) (words_per_row plan * bit_width kit) (columns_of plan * bit_width kit) (slice_end i (words_per_row plan) (bit_width kit) lt) s_of.bank;
  } where
    go : (row q : ℤ) (d c : ℕ) → (row +ℤ q) ≤ℤ (((row +ℤ pos d) +ℤ pos c) +ℤ q)
    go row q d c = omega (arith, ints)

    up : (row bank q : ℤ) (d c w all : ℕ) → c + w ≤ all → bank ≡ (row +ℤ pos d) +ℤ pos all → ((((row +ℤ pos d) +ℤ pos c) +ℤ q) +ℤ pos w) ≤ℤ (bank +ℤ q)
    up row bank q d c w all le e = omega (arith, ints, le, e)

    slice_end : (i w v : ℕ) → i < plan.word_size → (i * w) * v + w * v ≤ (plan.word_size * w) * v
    slice_end i w v lt =
        let le = all_of i plan.word_size (w * v) lt in
        let a = mul_assoc i w v in
        let c = mul_assoc plan.word_size w v in
        omega (arith, le, a, c)

  pub zone_kind : (leaf : LeafInstance) (place : Place) → HasLeafInstance plan leaf → IsPlaceOf plan kit f leaf place → ZoneKind (zone_of plan kit f leaf place)
  zone_kind (BitAt b r c) place has at = inl (b, column_in b c has.0 has.1.1, same f.column_y)
  zone_kind (NandAt b r) place has at = inl (b, front_in b has.0, same f.column_y)
  zone_kind (DriverAt b r) place has at = inl (b, front_in b has.0, same f.column_y)
  zone_kind (PrechargeAt b c) place has at = inl (b, column_in b c has.0 has.1, same f.column_y)
  zone_kind (MuxAt b c) place has at = inl (b, column_in b c has.0 has.1.0, same f.column_y)
  zone_kind (TieAt b c) place has at = inl (b, column_in b c has.0 has.1.0, same f.column_y)
  zone_kind (WriteAt b i) place has at = inr (inl (b, slice_in b i has.0 (subst (λ (n : ℕ). i < n) (written_all plan.write_size plan.word_size m.laid.written) has.1), same f.write_y, same (column_channel_y kit f)))
  zone_kind (SenseAt b i) place has at = inr (inl (b, slice_in b i has.0 has.1, same f.write_y, same (column_channel_y kit f)))
  zone_kind (LogicAt cell) place has at = inr (inr (
    same (pos 0),
    same (pos (kit.height Inv)),
    subst (λ (x : ℤ). ((x +ℤ pos (kit.width (logic_role plan cell))) +ℤ wire.space) ≤ℤ trunk_x plan kit wire f) (sym (ap (λ (q : Place). q.at.x) at.at))
        (go f.logic_x (pos (banks_of plan) *ℤ f.bank_width) wire.space (total_width plan kit (logic_cells plan)) (total_width plan kit at.before) (kit.width (logic_role plan cell)) (total_width plan kit at.after) (ap (total_width plan kit) at.row ∙ total_split plan kit at.before (cell ∷ at.after))),
  ))
    where
      go : (lx bq s : ℤ) (all b c a : ℕ) → all ≡ b + (c + a) → (((lx +ℤ pos b) +ℤ pos c) +ℤ s) ≤ℤ (int_max bq (lx +ℤ pos all) +ℤ s)
      go lx bq s all b c a is = omega (arith, ints, clamps, is)

  pub write_high : (pos (kit.height Inv) +ℤ wire.space) ≤ℤ f.write_y
  write_high = go (pos (kit.height Inv)) f.write_y wire.space (pos tracks.main *ℤ pitch wire) m.stands.write_y (times_low tracks.main (pitch wire) (pitch_low wire m.laid.sizes)) where
    go : (h y s t : ℤ) → y ≡ h +ℤ (s +ℤ t) → pos 0 ≤ℤ t → (h +ℤ s) ≤ℤ y
    go h y s t e a = omega (arith, ints, e, a)

  pub column_high : f.write_y ≤ℤ f.column_y
  column_high = let a = l.sense in let b = l.channel in let c = l.column in let s = m.laid.sizes.space.from in omega (arith, ints, a, b, c, s)

  pub banks_left : (b c : ℕ) → b < c → (offset b +ℤ f.bank_width) ≤ℤ offset c
  banks_left b c lt = banks_before b c f.bank_width lt s_of.wide

  -- a cut lies in its wire's square
  record IsInSquare (x y : ℤ) (s : Shape) : Type 0 where
    pub left : x <ℤ s.rect.x1
    pub right : s.rect.x2 <ℤ (x +ℤ wire.width)
    pub low : y <ℤ s.rect.y1
    pub high : s.rect.y2 <ℤ (y +ℤ wire.width)

  in_square : (k : ℕ) (x y : ℤ) (s : Shape) → IsVia wire k x y s → IsInSquare x y s
  in_square k x y s v =
      let two = two_margins wire m.laid.sizes in
      let one = margin_positive wire m.laid.sizes in
      let a = v.left in
      let b = v.right in
      let c = v.low in
      let d = v.high in
      record { left = omega (arith, ints, a, one); right = omega (arith, ints, b, two, one); low = omega (arith, ints, c, one); high = omega (arith, ints, d, two, one) }

  module _ (k : ℕ) (few : k < 3) (some_cut : 0 < k) (z : Zone) (frame : Rect) (kind : ZoneKind z) (around : LiesNear wire.space z frame) where
    main_clear : (s : Shape) → IsMainVia plan kit wire tracks f m k few some_cut s → Overlap s.rect frame → ⊥
    main_clear s a over =
        let q = in_square k a.x a.y s a.via in
        let high = q.high in
        let low = q.low in
        let o = over.high in
        let u = over.low in
        let fl = around.low in
        let fh = around.high in
        let under = a.under in
        let above = a.over in
        elim kind [
          | inl upper ↦ let p = upper.2 in let c = column_high in omega (arith, ints, high, o, u, fl, under, p, c)
          | inr rest ↦ elim rest [
            | inl slices ↦ let p = slices.2 in omega (arith, ints, high, o, u, fl, under, p)
            | inr logic ↦ omega (arith, ints, low, o, u, fh, above, logic.1)
          ]
        ]

    column_clear : (s : Shape) → IsColumnVia plan kit wire tracks f m k few some_cut s → Overlap s.rect frame → ⊥
    column_clear s a over =
        let q = in_square k a.x a.y s a.via in
        let high = q.high in
        let low = q.low in
        let o = over.high in
        let u = over.low in
        let fl = around.low in
        let fh = around.high in
        let under = a.under in
        let above = a.over in
        let up = a.above in
        elim kind [
          | inl upper ↦ let p = upper.2 in omega (arith, ints, high, o, u, fl, under, p)
          | inr rest ↦ elim rest [
            | inl slices ↦ let p = slices.3 in omega (arith, ints, low, o, u, fh, above, p)
            | inr logic ↦ let w = write_high in omega (arith, ints, low, o, u, fh, up, w, logic.1)
          ]
        ]

    beside_clear : (b : ℕ) → IsBankZone b z → (s : Shape) → IsTapVia plan kit wire tracks f m k few some_cut s → Overlap s.rect frame → ⊥
    beside_clear b zone s t over =
        let q = in_square k (t.x +ℤ offset t.bank) t.y s t.via in
        let left = q.left in
        let right = q.right in
        let o = over.left in
        let u = over.right in
        let fl = around.left in
        let fr = around.right in
        let to = t.rail.to in
        let from = t.rail.from in
        let zl = zone.left in
        let zr = zone.right in
        let w = m.laid.sizes.width.from in
        let sp = m.laid.sizes.space.from in
        elim (cases_lt b t.bank) [
          | inl lt ↦ let g = banks_left b t.bank lt in omega (arith, ints, left, u, o, fr, from, zr, g, w)
          | inr ge ↦ let g = up t.bank b ge in omega (arith, ints, right, o, u, fl, to, zl, g, sp)
        ]
      where
        up : (b c : ℕ) → b ≤ c → offset b ≤ℤ offset c
        up b c le = elim (cases_lt b c) [
          | inl lt ↦ let g = banks_left b c lt in let w = s_of.wide in omega (arith, ints, g, w)
          | inr ge ↦ let e : offset b ≡ offset c = ap (λ (j : ℕ). pos j *ℤ f.bank_width) (omega (arith, le, ge)) in omega (arith, ints, e)
        ]

    tap_clear : (s : Shape) → IsTapVia plan kit wire tracks f m k few some_cut s → Overlap s.rect frame → ⊥
    tap_clear s t over = elim kind [
      | inl upper ↦ beside_clear upper.0 upper.1 s t over
      | inr rest ↦ elim rest [
        | inl slices ↦ beside_clear slices.0 slices.1 s t over
        | inr logic ↦
            let q = in_square k (t.x +ℤ offset t.bank) t.y s t.via in
            let low = q.low in
            let o = over.high in
            let u = over.low in
            let fh = around.high in
            let above = t.above in
            let w = write_high in
            omega (arith, ints, low, o, u, fh, above, w, logic.1)
      ]
    ]

    -- none reaches into the frame
    pub cut_clear : (s : Shape) → s.layer ≡ slice_index wire.cuts k → IsDrawnWire plan kit wire tracks f s → Overlap s.rect frame → ⊥
    cut_clear s on is over = elim (on_cut plan kit wire tracks f m k few some_cut s on is) [
      | inl a ↦ main_clear s a over
      | inr rest ↦ elim rest [
        | inl a ↦ column_clear s a over
        | inr t ↦ tap_clear s t over
      ]
    ]
