-- A box that the third metal covers near a zone in one memory is covered in another.
use Rattle.std.proofs.Common.{◌≡◌, ◌⊎◌, inl, inr, ◌∙◌, ℕ, ℤ, pos, ◌+ℤ◌, ◌-ℤ◌, ◌≤ℤ◌, ◌<ℤ◌, List, sym, ap, subst, arith}
use Rattle.std.specs.Prelude.{slice_index}
use Rattle.std.proofs.lemmas.Int.{ints}
use Rattle.or_geom.specs.declared.shape.Rect.{Rect}
use Rattle.or_geom.specs.declared.shape.Shape.{Shape}
use Rattle.or_geom.specs.Covered.{HasCell, HasCellInSome}
use Rattle.shape_bins.specs.Layers.{rects_on, IsCoveredBy}
use Rattle.cell_roles.specs.declared.role.Role.TheVariants.{Inv}
use Rattle.tech_rules.specs.declared.tech.Wire.{Wire}
use Rattle.channel_router.specs.Wires.{channel_height, track_y}
use Rattle.sram_netlist.specs.Organization.{Organization}
use Rattle.sram_netlist.specs.BitCells.{BitCells}
use Rattle.macro_layout.specs.LayoutKit.{LayoutKit}
use Rattle.macro_layout.specs.Places.{Floorplan, bit_width}
use Rattle.macro_layout.specs.Floorplan.{Tracks, column_channel_y}
use Rattle.macro_layout.specs.Wires.{IsTapAt}
use Rattle.good_places.specs.Leaves.{Zone, ReachesNeighboursOnly}
use Rattle.good_places.specs.Seen.{IsMovedZone}
use Rattle.leaf_shapes.specs.Outline.{IsWireLayer}
use Rattle.good_places.specs.Windows.{with_bits}
use Rattle.good_places.proofs.LaidLaws.{numbers}
use Rattle.good_wires.specs.Drawn.{IsDrawnMemory}
use Rattle.good_wires.specs.Kept.{HasDrawnShapes}
use Rattle.good_wires.proofs.LevelLaws.{Levels, levels, track_above, track_below}
use Rattle.good_wires.proofs.TapLaws.{tap_low}
use Rattle.good_wires.proofs.ClearLaws.{write_high, column_high}
use Rattle.good_wires.proofs.ThirdLaws.{IsTap, IsOnThird, on_third, IsChoice, tap_kind}
use Rattle.tap_spaces.proofs.TapWindowLaws.{AreTapZones}
use Rattle.tap_spaces.proofs.TapKindLaws.{IsRowTap, IsPrechargeTap, upper_kind, slice_kind}
use Rattle.level_covers.proofs.TapCellLaws.{HasTapCell, IsCellNear}
use Rattle.level_covers.proofs.TapItemLaws.{columns_cell, fronts_cell, slices_cell}
use Rattle.upright_covers.proofs.BoxLaws.{IsWireCell, cell_kind}
use Rattle.upright_covers.proofs.AtLaws.{IsBoxAt, cell_over, cell_under}
use Rattle.upright_covers.proofs.ChannelRowLaws.{IsLogicTop, IsSliceFoot, IsSliceTop, IsColumnFoot, over_logic, under_slices, over_slices, under_columns, logic_top, slice_foot, slice_top, column_foot, zone_off_channels}

module _ (Flat : List ℕ → Shape → Type 0) (base : Organization) (kit : LayoutKit) (bits : BitCells) (wire : Wire) (w1 r1 m1 w2 r2 m2 : ℕ) (tracks many : Tracks) (f g : Floorplan) (by reach : ℤ) (from to : List Shape) (short : ReachesNeighboursOnly kit wire reach)
    (flat : HasDrawnShapes Flat (with_bits base w2 r2 m2) kit bits wire tracks f by to) (h : HasDrawnShapes Flat (with_bits base w1 r1 m1) kit bits wire many g by from) (own : IsWireLayer wire (slice_index wire.metals 2))
    (dx dy : ℤ) (here there : Zone) (same : IsMovedZone dx dy there here) (zones : AreTapZones (with_bits base w1 r1 m1) (with_bits base w2 r2 m2) kit g f there here) (d : ℤ) (box : Rect) (at : IsBoxAt wire reach there there d box) (covered : IsCoveredBy (slice_index wire.metals 2) from box) where
  abbrev other : Organization
  other = with_bits base w1 r1 m1

  abbrev metal : ℕ
  metal = slice_index wire.metals 2

  abbrev m : IsDrawnMemory other kit wire many g
  m = h.drawn

  l : Levels other kit wire g
  l = levels other kit wire many g h.drawn.laid.sizes h.drawn.stands

  abbrev Covers : ℤ → ℤ → Type 0
  Covers x y = HasCellInSome (rects_on metal from) x y

  abbrev WireAt : ℤ → ℤ → Type 0
  WireAt x y = IsWireCell Flat other kit bits wire many g by from h metal x y

  -- where wires stand upwards: in a channel, in the slices, or over the columns' lower end
  abbrev Level : ℤ → Type 0
  Level y = (((pos (kit.height Inv) +ℤ wire.space) ≤ℤ y) × ((y +ℤ wire.space) <ℤ g.write_y)) ⊎ (((g.write_y ≤ℤ y) × (y <ℤ column_channel_y kit g)) ⊎ ((((column_channel_y kit g +ℤ wire.space) ≤ℤ y) × ((y +ℤ wire.space) <ℤ g.column_y)) ⊎ (g.column_y ≤ℤ y)))

  in_track : (low high y b1 b2 : ℤ) → b1 ≡ low → b2 ≡ low +ℤ wire.width → b1 ≤ℤ y → y <ℤ b2 → ((low +ℤ wire.width) +ℤ wire.space) ≤ℤ high → (low ≤ℤ y) × ((y +ℤ wire.space) <ℤ high)
  in_track low high y b1 b2 e e2 from to under = (omega (arith, ints, e, from), omega (arith, ints, e2, to, under))

  after : (a b c : ℤ) → a ≤ℤ b → b ≤ℤ c → a ≤ℤ c
  after a b c p q = omega (arith, ints, p, q)

  tap_level : (y tx ty end b1 b2 : ℤ) (tap : IsTapAt other kit wire many.column g tx ty end) → b1 ≡ ty → b2 ≡ ty +ℤ wire.width → b1 ≤ℤ y → y <ℤ b2 → Level y
  tap_level y tx ty end b1 b2 tap e e2 low high = elim (tap_kind other kit wire many g m tx ty end tap) [
    | inl upper ↦ inr (inr (inr (omega (arith, ints, upper, e, low))))
    | inr rest ↦ elim rest [
      | inl slices ↦ let w = tap_low other kit wire many g tx ty end m tap in inr (inl (omega (arith, ints, w, e, low), omega (arith, ints, slices, e2, high)))
      | inr choice ↦ inr (inr (inl (of_choice choice)))
    ]
  ] where
    of_choice : IsChoice other kit wire many g m tx ty end → ((column_channel_y kit g +ℤ wire.space) ≤ℤ y) × ((y +ℤ wire.space) <ℤ g.column_y)
    of_choice c =
        let above = subst (λ (z : ℤ). (z +ℤ wire.space) ≤ℤ track_y m.column.channel.low wire c.t) m.column.meant.low (track_above m.column.channel.low wire c.t m.laid.sizes) in
        let under = track_below m.column.channel.low g.column_y wire c.t many.column m.laid.sizes (m.column.count.below c.number c.t c.has.on) (m.stands.column_y ∙ ap (λ (z : ℤ). z +ℤ channel_height wire many.column) (sym m.column.meant.low)) in
        let both = in_track (track_y m.column.channel.low wire c.t) g.column_y y b1 b2 (e ∙ c.at) (e2 ∙ ap (λ (z : ℤ). z +ℤ wire.width) c.at) low high under in
        (after (column_channel_y kit g +ℤ wire.space) (track_y m.column.channel.low wire c.t) y above both.0, both.1)

  level_of : (x y : ℤ) (s : Shape) → HasCell s.rect x y → IsOnThird other kit wire many g m s → Level y
  level_of x y s has (inl t) = let both = in_track t.y g.write_y y s.rect.y1 s.rect.y2 t.drawn.low t.drawn.high has.low has.high t.under in inl (after (pos (kit.height Inv) +ℤ wire.space) t.y y t.above both.0, both.1)
  level_of x y s has (inr (inl t)) =
      let both = in_track (track_y m.column.channel.low wire t.t) g.column_y y s.rect.y1 s.rect.y2 t.drawn.low t.drawn.high has.low has.high t.under in
      inr (inr (inl (after (column_channel_y kit g +ℤ wire.space) (track_y m.column.channel.low wire t.t) y t.above both.0, both.1)))
  level_of x y s has (inr (inr t)) = tap_level y t.x t.y t.end s.rect.y1 s.rect.y2 t.tap t.drawn.low t.drawn.high has.low has.high

  -- Rows of cells beside the tracks have nothing on the metal

  abbrev IsLine : ℤ → Type 0
  IsLine y = (IsLogicTop other kit wire many g m y ⊎ IsSliceFoot other kit wire many g m y) ⊎ (IsSliceTop other kit wire many g m y ⊎ IsColumnFoot other kit wire many g m y)

  line_row : (y : ℤ) → IsLine y → ((pos (kit.height Inv) ≤ℤ y) × (y <ℤ g.write_y)) ⊎ ((column_channel_y kit g ≤ℤ y) × (y <ℤ g.column_y))
  line_row y (inl (inl e)) = logic_top other kit wire many g m y e
  line_row y (inl (inr e)) = slice_foot other kit wire many g m y e
  line_row y (inr (inl e)) = slice_top other kit wire many g m y e
  line_row y (inr (inr e)) = column_foot other kit wire many g m y e

  off_line : (y : ℤ) → IsLine y → Level y → ⊥
  off_line y line level =
      let row = line_row y line in
      let up = column_high other kit wire many g m in
      let w = write_high other kit wire many g m in
      let ls = l.sense in
      let lc = l.channel in
      let lm = l.column in
      let sp = m.laid.sizes.space.from in
      elim level [
        | inl main ↦
            let a = main.0 in
            let b = main.1 in
            elim line [
              | inl low ↦ elim low [ inl e ↦ omega (arith, ints, e, a) | inr e ↦ omega (arith, ints, e, b) ]
              | inr high ↦ elim high [ inl e ↦ omega (arith, ints, e, b, ls, lc, sp) | inr e ↦ omega (arith, ints, e, b, up) ]
            ]
        | inr rest ↦ elim rest [
          | inl slices ↦
              let a = slices.0 in
              let b = slices.1 in
              elim row [
                | inl main ↦ let q = main.1 in omega (arith, ints, q, a)
                | inr column ↦ let q = column.0 in omega (arith, ints, q, b)
              ]
          | inr more ↦ elim more [
            | inl column ↦
                let a = column.0 in
                let b = column.1 in
                elim line [
                  | inl low ↦ elim low [ inl e ↦ omega (arith, ints, e, a, w, ls, lc, sp) | inr e ↦ omega (arith, ints, e, a, ls, lc, sp) ]
                  | inr high ↦ elim high [ inl e ↦ omega (arith, ints, e, a) | inr e ↦ omega (arith, ints, e, b) ]
                ]
            | inr upper ↦ elim row [
              | inl main ↦ let q = main.1 in omega (arith, ints, q, upper, up)
              | inr column ↦ let q = column.1 in omega (arith, ints, q, upper)
            ]
          ]
        ]
      ]

  bare_row : (x y : ℤ) → IsLine y → Covers x y → ⊥
  bare_row x y line has = elim (cell_kind Flat other kit bits wire many g by from h metal x y own has) [
    | inl leaf ↦ zone_off_channels other kit wire many g m _ x y leaf.kind leaf.within (line_row y line)
    | inr w ↦ off_line y line (level_of x y w.shape w.holds (on_third other kit wire many g m w.shape w.on w.is))
  ]

  over : (x y line : ℤ) → HasCell box x y → there.high ≤ℤ line → IsLine ((line +ℤ wire.space) -ℤ pos 1) → (line +ℤ wire.space) ≤ℤ y → ⊥
  over x y line inside top row le = bare_row x ((line +ℤ wire.space) -ℤ pos 1) row (covered x ((line +ℤ wire.space) -ℤ pos 1) (cell_over wire reach there there d box at line x y inside top le))

  under : (x y line : ℤ) → HasCell box x y → line ≤ℤ there.low → IsLine (line -ℤ wire.space) → (y +ℤ wire.space) <ℤ line → ⊥
  under x y line inside foot row lt = bare_row x (line -ℤ wire.space) row (covered x (line -ℤ wire.space) (cell_under wire reach there there d box at line x y inside foot lt))

  -- so wires that cover cells of the box are taps of the zone's part
  at_columns : (x y : ℤ) → HasCell box x y → there.low ≡ g.column_y → Level y → g.column_y ≤ℤ (y +ℤ wire.space)
  at_columns x y inside e level = by_le (by_cases level) where
    foot : g.column_y ≤ℤ there.low
    foot = omega (arith, ints, e)

    out : (y +ℤ wire.space) <ℤ g.column_y → ⊥
    out = under x y g.column_y inside foot (inr (inr (under_columns other kit wire many g m)))

    by_le : (g.column_y ≤ℤ (y +ℤ wire.space)) ⊎ ((y +ℤ wire.space) <ℤ g.column_y) → g.column_y ≤ℤ (y +ℤ wire.space)
    by_le (inl le) = le
    by_le (inr lt) = absurd (out lt)

    by_cases : Level y → (g.column_y ≤ℤ (y +ℤ wire.space)) ⊎ ((y +ℤ wire.space) <ℤ g.column_y)
    by_cases (inl main) = let a = main.1 in let up = column_high other kit wire many g m in inr (omega (arith, ints, a, up))
    by_cases (inr (inl slices)) = let a = slices.1 in let lm = l.column in inr (omega (arith, ints, a, lm))
    by_cases (inr (inr (inl column))) = inr column.1
    by_cases (inr (inr (inr upper))) = let sp = m.laid.sizes.space.from in inl (omega (arith, ints, upper, sp))

  at_slices : (x y : ℤ) → HasCell box x y → there.low ≡ g.write_y → there.high ≡ column_channel_y kit g → Level y → (g.write_y ≤ℤ y) × (y <ℤ (column_channel_y kit g +ℤ wire.space))
  at_slices x y inside a b (inl main) = absurd (under x y g.write_y inside (omega (arith, ints, a)) (inl (inr (under_slices other kit wire many g m))) main.1)
  at_slices x y inside a b (inr (inl slices)) = let q = slices.1 in let sp = m.laid.sizes.space.from in (slices.0, omega (arith, ints, q, sp))
  at_slices x y inside a b (inr (inr (inl column))) = absurd (over x y (column_channel_y kit g) inside (omega (arith, ints, b)) (inr (inl (over_slices other kit wire many g m))) column.0)
  at_slices x y inside a b (inr (inr (inr upper))) = let lm = l.column in absurd (over x y (column_channel_y kit g) inside (omega (arith, ints, b)) (inr (inl (over_slices other kit wire many g m))) (omega (arith, ints, upper, lm)))

  at_logic : (x y : ℤ) → HasCell box x y → there.high ≤ℤ pos (kit.height Inv) → Level y → ⊥
  at_logic x y inside top level =
      let w = write_high other kit wire many g m in
      let up = column_high other kit wire many g m in
      let ls = l.sense in
      let lc = l.channel in
      let sp = m.laid.sizes.space.from in
      over x y (pos (kit.height Inv)) inside top (inl (inl (over_logic other kit wire many g m))) (elim level [
        | inl main ↦ main.0
        | inr rest ↦ elim rest [
          | inl slices ↦ let a = slices.0 in omega (arith, ints, a, w)
          | inr more ↦ elim more [ inl column ↦ let a = column.0 in omega (arith, ints, a, w, ls, lc, sp) | inr upper ↦ omega (arith, ints, upper, w, up) ]
        ]
      ])

  -- a trunk stands in its channel
  in_channel : (x y : ℤ) → HasCell box x y → (((pos (kit.height Inv) +ℤ wire.space) ≤ℤ y) × ((y +ℤ wire.space) <ℤ g.write_y)) ⊎ (((column_channel_y kit g +ℤ wire.space) ≤ℤ y) × ((y +ℤ wire.space) <ℤ g.column_y)) → ⊥
  in_channel x y inside row = go zones where
    level : (((pos (kit.height Inv) +ℤ wire.space) ≤ℤ y) × ((y +ℤ wire.space) <ℤ g.write_y)) ⊎ (((column_channel_y kit g +ℤ wire.space) ≤ℤ y) × ((y +ℤ wire.space) <ℤ g.column_y)) → Level y
    level (inl main) = inl main
    level (inr column) = inr (inr (inl column))

    upper : there.low ≡ g.column_y → (((pos (kit.height Inv) +ℤ wire.space) ≤ℤ y) × ((y +ℤ wire.space) <ℤ g.write_y)) ⊎ (((column_channel_y kit g +ℤ wire.space) ≤ℤ y) × ((y +ℤ wire.space) <ℤ g.column_y)) → ⊥
    upper e (inl main) = let a = at_columns x y inside e (inl main) in let q = main.1 in let up = column_high other kit wire many g m in omega (arith, ints, a, q, up)
    upper e (inr column) = let a = at_columns x y inside e (inr (inr (inl column))) in let q = column.1 in omega (arith, ints, a, q)

    middle : there.low ≡ g.write_y → there.high ≡ column_channel_y kit g → (((pos (kit.height Inv) +ℤ wire.space) ≤ℤ y) × ((y +ℤ wire.space) <ℤ g.write_y)) ⊎ (((column_channel_y kit g +ℤ wire.space) ≤ℤ y) × ((y +ℤ wire.space) <ℤ g.column_y)) → ⊥
    middle e e2 (inl main) = let a = (at_slices x y inside e e2 (inl main)).0 in let q = main.1 in let sp = m.laid.sizes.space.from in omega (arith, ints, a, q, sp)
    middle e e2 (inr column) = let a = (at_slices x y inside e e2 (inr (inr (inl column)))).1 in let q = column.0 in omega (arith, ints, a, q)

    go : AreTapZones other (with_bits base w2 r2 m2) kit g f there here → ⊥
    go (inl z) = upper (ap (λ (q : Zone). q.low) z.here_is) row
    go (inr (inl z)) = upper (ap (λ (q : Zone). q.low) z.here_is) row
    go (inr (inr (inl z))) = middle (ap (λ (q : Zone). q.low) z.here_is) (ap (λ (q : Zone). q.high) z.here_is) row
    go (inr (inr (inr z))) = at_logic x y inside z.here_high (level row)

  narrow : d ≤ℤ pos (bit_width kit)
  narrow = let a = at.felt in let b = short.bitcell in omega (arith, ints, a, b)

  low_rows : d ≤ℤ g.row_x
  low_rows = let a = at.felt in let b = (numbers other kit wire g reach h.drawn.laid short).front in omega (arith, ints, a, b)

  abbrev Found : ℤ → ℤ → Type 0
  Found x y = HasTapCell base kit wire w1 r1 m1 w2 r2 m2 many tracks g f m flat.drawn dx dy d there here same low_rows x y

  near : (x y : ℤ) → HasCell box x y → IsCellNear base kit wire w1 r1 m1 w2 r2 m2 many tracks g f m flat.drawn dx dy d there here same low_rows x
  near x y inside = record { from = let a = at.lies.left in let b = inside.left in omega (arith, ints, a, b); to = let a = at.lies.right in let b = inside.right in omega (arith, ints, a, b) }

  tap_found : (x y : ℤ) → HasCell box x y → (b : Shape) (t : IsTap other kit wire many g m b) → HasCell b.rect x y → Found (x +ℤ dx) (y +ℤ dy)
  tap_found x y inside b t has = go zones where
    level : Level y
    level = tap_level y t.x t.y t.end b.rect.y1 b.rect.y2 t.tap t.drawn.low t.drawn.high has.low has.high

    below : (b2 ty : ℤ) → b2 ≡ ty +ℤ wire.width → y <ℤ b2 → y <ℤ (ty +ℤ wire.width)
    below b2 ty e lt = omega (arith, ints, e, lt)

    begun : (b1 ty : ℤ) → b1 ≡ ty → b1 ≤ℤ y → ty <ℤ (y +ℤ pos 1)
    begun b1 ty e le = omega (arith, ints, e, le)

    same_space : wire.space ≤ℤ wire.space
    same_space = omega (arith, ints)

    at_most : y <ℤ (column_channel_y kit g +ℤ wire.space) → (y +ℤ pos 1) ≤ℤ (column_channel_y kit g +ℤ wire.space)
    at_most lt = omega (arith, ints, lt)

    upper : there.low ≡ g.column_y → IsRowTap other kit wire many g m t.tap.net t.y t.end ⊎ IsPrechargeTap other kit wire many g m t.tap.net t.y t.end
    upper e = upper_kind other kit wire many g m t.x t.y t.end t.tap y wire.space (at_columns x y inside e level) same_space (below b.rect.y2 t.y t.drawn.high has.high)

    go : AreTapZones other (with_bits base w2 r2 m2) kit g f there here → Found (x +ℤ dx) (y +ℤ dy)
    go (inl z) = columns_cell base kit wire w1 r1 m1 w2 r2 m2 many tracks g f m flat.drawn dx dy d there here same low_rows narrow b t x y has (near x y inside) z (upper (ap (λ (q : Zone). q.low) z.here_is))
    go (inr (inl z)) = fronts_cell base kit wire w1 r1 m1 w2 r2 m2 many tracks g f m flat.drawn dx dy d there here same low_rows narrow b t x y has (near x y inside) z (upper (ap (λ (q : Zone). q.low) z.here_is))
    go (inr (inr (inl z))) =
        slices_cell base kit wire w1 r1 m1 w2 r2 m2 many tracks g f m flat.drawn dx dy d there here same low_rows narrow b t x y has (near x y inside) z
        (slice_kind other kit wire many g m t.x t.y t.end t.tap (y +ℤ pos 1) wire.space (at_most (at_slices x y inside (ap (λ (q : Zone). q.low) z.here_is) (ap (λ (q : Zone). q.high) z.here_is) level).1) same_space (begun b.rect.y1 t.y t.drawn.low has.low))
    go (inr (inr (inr z))) = absurd (at_logic x y inside z.here_high level)

  -- each wire that covers a cell of the box covers it, moved, here
  pub third_kept : (x y : ℤ) → HasCell box x y → IsWireCell Flat other kit bits wire many g by from h metal x y → IsWireCell Flat (with_bits base w2 r2 m2) kit bits wire tracks f by to flat metal (x +ℤ dx) (y +ℤ dy)
  third_kept x y inside w = elim (on_third other kit wire many g m w.shape w.on w.is) [
    | inl t ↦ let both = in_track t.y g.write_y y w.shape.rect.y1 w.shape.rect.y2 t.drawn.low t.drawn.high w.holds.low w.holds.high t.under in absurd (in_channel x y inside (inl (after (pos (kit.height Inv) +ℤ wire.space) t.y y t.above both.0, both.1)))
    | inr rest ↦ elim rest [
      | inl t ↦
          let both = in_track (track_y m.column.channel.low wire t.t) g.column_y y w.shape.rect.y1 w.shape.rect.y2 t.drawn.low t.drawn.high w.holds.low w.holds.high t.under in
          absurd (in_channel x y inside (inr (after (column_channel_y kit g +ℤ wire.space) (track_y m.column.channel.low wire t.t) y t.above both.0, both.1)))
      | inr t ↦ let i = tap_found x y inside w.shape t w.holds in record { shape = i.image; on = i.on; holds = i.holds; is = i.drawn }
    ]
  ]
