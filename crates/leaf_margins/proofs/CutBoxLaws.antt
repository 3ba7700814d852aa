-- No cut of wires covers a cell of a box that cuts cover near a zone.
use Rattle.std.proofs.Common.{◌⊎◌, inl, inr, ℕ, ◌<◌, ℤ, pos, ◌+ℤ◌, ◌-ℤ◌, ◌*ℤ◌, ◌≤ℤ◌, ◌<ℤ◌, List, arith}
use Rattle.std.specs.Prelude.{slice_index}
use Rattle.std.proofs.lemmas.Int.{ints}
use Rattle.or_geom.specs.declared.shape.Rect.{Rect}
use Rattle.or_geom.specs.declared.shape.Shape.{Shape}
use Rattle.or_geom.specs.Covered.{HasCell, HasCellInSome}
use Rattle.shape_bins.specs.Layers.{rects_on, IsCoveredBy}
use Rattle.cell_roles.specs.declared.role.Role.TheVariants.{Inv}
use Rattle.tech_rules.specs.declared.tech.Wire.{Wire}
use Rattle.wire_drawing.specs.Drawing.{IsVia, pitch}
use Rattle.tech_rules.proofs.WireLaws.{two_margins, margin_positive}
use Rattle.sram_netlist.specs.Organization.{Organization}
use Rattle.sram_netlist.specs.BitCells.{BitCells}
use Rattle.macro_layout.specs.LayoutKit.{LayoutKit}
use Rattle.macro_layout.specs.Places.{Floorplan, bank_x, columns_x}
use Rattle.macro_layout.specs.Floorplan.{Tracks, column_channel_y}
use Rattle.good_places.specs.Leaves.{Zone}
use Rattle.leaf_shapes.specs.Outline.{IsWireLayer}
use Rattle.good_wires.specs.Drawn.{IsDrawnMemory}
use Rattle.good_wires.specs.Kept.{HasDrawnShapes}
use Rattle.good_wires.proofs.LevelLaws.{Levels, levels, Sides, sides}
use Rattle.good_wires.proofs.CutLaws.{on_cut}
use Rattle.good_wires.proofs.ClearLaws.{ZoneKind, IsBankZone, write_high, column_high}
use Rattle.upright_covers.proofs.BoxLaws.{IsLeafCell, IsWireCell, cell_kind}
use Rattle.upright_covers.proofs.AtLaws.{IsBoxAt, cell_over, cell_under}
use Rattle.upright_covers.proofs.GapLaws.{IsGapColumn, no_bank, no_rail, box_left, box_right}
use Rattle.upright_covers.proofs.ChannelRowLaws.{IsLogicTop, IsSliceFoot, IsSliceTop, IsColumnFoot, over_logic, under_slices, over_slices, under_columns, logic_top, slice_foot, slice_top, column_foot, zone_off_channels}

module _ (Flat : List ℕ → Shape → Type 0) (other : Organization) (kit : LayoutKit) (bits : BitCells) (wire : Wire) (many : Tracks) (g : Floorplan) (by reach : ℤ) (from : List Shape) (h : HasDrawnShapes Flat other kit bits wire many g by from)
    (k : ℕ) (few : k < 3) (some : 0 < k) (own : IsWireLayer wire (slice_index wire.cuts k)) (z near : Zone) (kind : ZoneKind other kit wire many g h.drawn z) (d : ℤ) (box : Rect) (at : IsBoxAt wire reach z near d box) (covered : IsCoveredBy (slice_index wire.cuts k) from box) where
  abbrev cut : ℕ
  cut = slice_index wire.cuts k

  abbrev m : IsDrawnMemory other kit wire many g
  m = h.drawn

  l : Levels other kit wire g
  l = levels other kit wire many g h.drawn.laid.sizes h.drawn.stands

  s_of : Sides other kit wire g
  s_of = sides other kit wire many g h.drawn.laid.sizes h.drawn.stands

  abbrev Covers : ℤ → ℤ → Type 0
  Covers x y = HasCellInSome (rects_on cut from) x y

  -- a cut's cells lie in its wire's square
  record IsInSquare (left low x y : ℤ) : Type 0 where
    pub after : left ≤ℤ x
    pub before : x <ℤ (left +ℤ wire.width)
    pub above : low ≤ℤ y
    pub below : y <ℤ (low +ℤ wire.width)

  in_square : (left low x y : ℤ) (s : Shape) → IsVia wire k left low s → HasCell s.rect x y → IsInSquare left low x y
  in_square left low x y s v has =
      let two = two_margins wire m.laid.sizes in
      let one = margin_positive wire m.laid.sizes in
      record {
        after = let a = v.left in let b = has.left in omega (arith, ints, a, b, one);
        before = let a = v.right in let b = has.right in omega (arith, ints, a, b, two, one);
        above = let a = v.low in let b = has.low in omega (arith, ints, a, b, one);
        below = let a = v.high in let b = has.high in omega (arith, ints, a, b, two, one);
      }

  -- What covers a cell

  record IsTrackCell (x y : ℤ) : Type 0 where
    pub low : ℤ
    pub within : (low ≤ℤ y) × (y <ℤ (low +ℤ wire.width))
    pub channel : (((pos (kit.height Inv) +ℤ wire.space) ≤ℤ low) × ((low +ℤ pitch wire) ≤ℤ g.write_y)) ⊎ (((column_channel_y kit g +ℤ wire.space) ≤ℤ low) × ((low +ℤ pitch wire) ≤ℤ g.column_y))
    pub bank_column : ((low +ℤ pitch wire) ≤ℤ g.write_y) ⊎ ((bank : ℕ) × (left : ℤ) × (bank_x g bank g.row_x ≤ℤ left) × ((left +ℤ wire.width) ≤ℤ bank_x g bank g.bank_width) × (left ≤ℤ x) × (x <ℤ (left +ℤ wire.width)))

  record IsRailCell (x y : ℤ) : Type 0 where
    pub bank : ℕ
    pub left : ℤ
    pub behind : bank_x g bank (pitch wire) ≤ℤ left
    pub ends : ((left +ℤ wire.width) +ℤ wire.space) ≤ℤ bank_x g bank g.row_x
    pub after : left ≤ℤ x
    pub before : x <ℤ (left +ℤ wire.width)
    pub above : g.write_y ≤ℤ y

  abbrev Leaf : ℤ → ℤ → Type 0
  Leaf x y = IsLeafCell Flat other kit bits wire many g by from h cut x y

  abbrev Kind : ℤ → ℤ → Type 0
  Kind x y = Leaf x y ⊎ (IsTrackCell x y ⊎ IsRailCell x y)

  wire_kind : (x y : ℤ) → IsWireCell Flat other kit bits wire many g by from h cut x y → IsTrackCell x y ⊎ IsRailCell x y
  wire_kind x y w = elim (on_cut other kit wire many g m k few some w.shape w.on w.is) [
    | inl a ↦ let q = in_square a.x a.y x y w.shape a.via w.holds in inl (record { low = a.y; within = (q.above, q.below); channel = inl (a.over, a.under); bank_column = inl a.under })
    | inr rest ↦ elim rest [
      | inl a ↦
          let q = in_square a.x a.y x y w.shape a.via w.holds in
          inl (record { low = a.y; within = (q.above, q.below); channel = inr (a.over, a.under); bank_column = inr (a.bank, a.x, behind (columns_x other kit g) g.row_x (pos a.bank *ℤ g.bank_width) a.x s_of.columns a.at.from, a.at.to, q.after, q.before) })
      | inr t ↦ let q = in_square (t.x +ℤ (pos t.bank *ℤ g.bank_width)) t.y x y w.shape t.via w.holds in inr (record { bank = t.bank; left = t.x +ℤ (pos t.bank *ℤ g.bank_width); behind = t.rail.from; ends = t.rail.to; after = q.after; before = q.before; above = over t.y y t.above q.above })
    ]
  ] where
    behind : (c r q x : ℤ) → r ≤ℤ c → (c +ℤ q) ≤ℤ x → (r +ℤ q) ≤ℤ x
    behind c r q x a b = omega (arith, ints, a, b)

    over : (t y : ℤ) → g.write_y ≤ℤ t → t ≤ℤ y → g.write_y ≤ℤ y
    over t y a b = omega (arith, ints, a, b)

  kind_of : (x y : ℤ) → Covers x y → Kind x y
  kind_of x y has = elim (cell_kind Flat other kit bits wire many g by from h cut x y own has) [
    | inl leaf ↦ inl leaf
    | inr w ↦ inr (wire_kind x y w)
  ]

  leaf_out : (x y : ℤ) (leaf : Leaf x y) → ((pos (kit.height Inv) ≤ℤ y) × (y <ℤ g.write_y)) ⊎ ((column_channel_y kit g ≤ℤ y) × (y <ℤ g.column_y)) → ⊥
  leaf_out x y leaf row = zone_off_channels other kit wire many g m _ x y leaf.kind leaf.within row

  -- At a cell of the logic row: all cuts of wires stand over the gap above it
  over_gap : (x y : ℤ) → IsTrackCell x y ⊎ IsRailCell x y → (pos (kit.height Inv) +ℤ wire.space) ≤ℤ y
  over_gap x y (inl t) =
      let a = t.within.0 in
      let w = write_high other kit wire many g m in
      let ls = l.sense in
      let lc = l.channel in
      elim t.channel [
        | inl main ↦ let p = main.0 in omega (arith, ints, a, p)
        | inr column ↦ let p = column.0 in let sp = m.laid.sizes.space.from in omega (arith, ints, a, p, w, ls, lc, sp)
      ]
  over_gap x y (inr r) = let a = r.above in let w = write_high other kit wire many g m in omega (arith, ints, a, w)

  logic_row : (x y : ℤ) → IsLogicTop other kit wire many g m y → Covers x y → ⊥
  logic_row x y e has = elim (kind_of x y has) [
    | inl leaf ↦ leaf_out x y leaf (logic_top other kit wire many g m y e)
    | inr w ↦ let p = over_gap x y w in omega (arith, ints, p, e)
  ]

  at_logic : z.high ≤ℤ pos (kit.height Inv) → (x y : ℤ) → HasCell box x y → IsTrackCell x y ⊎ IsRailCell x y → ⊥
  at_logic row x y inside w =
      let line = (pos (kit.height Inv) +ℤ wire.space) -ℤ pos 1 in
      logic_row x line (over_logic other kit wire many g m) (covered x line (cell_over wire reach z near d box at (pos (kit.height Inv)) x y inside row (over_gap x y w)))

  -- At a bank's zone

  module _ (bank : ℕ) (in_bank : IsBankZone other kit wire many g m bank z) (above : g.write_y ≤ℤ z.low) where
    bare_column : (x y : ℤ) → IsGapColumn other kit wire many g m bank x → g.write_y ≤ℤ (y +ℤ wire.space) → Covers x y → ⊥
    bare_column x y gap over has = elim (kind_of x y has) [
      | inl leaf ↦ elim leaf.kind [
        | inl upper ↦ no_bank other kit wire many g m bank upper.0 x _ _ gap upper.1.left upper.1.right leaf.within.left leaf.within.right
        | inr rest ↦ elim rest [
          | inl slices ↦ no_bank other kit wire many g m bank slices.0 x _ _ gap slices.1.left slices.1.right leaf.within.left leaf.within.right
          | inr logic ↦ let p = logic.1 in let q = leaf.within.high in let w = write_high other kit wire many g m in omega (arith, ints, p, q, w, over)
        ]
      ]
      | inr w ↦ elim w [
        | inl t ↦ elim t.bank_column [
          | inl main ↦ let p = t.within.1 in let sp = m.laid.sizes.space.from in omega (arith, ints, main, p, over)
          | inr c ↦ no_bank other kit wire many g m bank c.0 x c.1 (c.1 +ℤ wire.width) gap c.2 c.3 c.4 c.5
        ]
        | inr r ↦ no_rail other kit wire many g m bank r.bank x r.left (r.left +ℤ wire.width) gap.behind_rails gap.before_rails r.behind r.ends r.after r.before
      ]
    ]

    left_end : bank_x g bank g.row_x ≤ℤ (box.x1 +ℤ wire.space)
    left_end = box_left other kit wire many g m bank z near in_bank above reach d box at Covers covered bare_column

    right_end : box.x2 ≤ℤ (bank_x g bank g.bank_width +ℤ wire.space)
    right_end = box_right other kit wire many g m bank z near in_bank above reach d box at Covers covered bare_column

    off_rails : (x y : ℤ) → box.x1 ≤ℤ x → x <ℤ box.x2 → IsRailCell x y → ⊥
    off_rails x y left right r = no_rail other kit wire many g m bank r.bank x r.left (r.left +ℤ wire.width) (behind box.x1 (bank_x g bank g.row_x) left_end left) (before box.x2 (bank_x g bank g.bank_width) wire.width right_end right m.laid.sizes.width.from) r.behind r.ends r.after r.before where
      behind : (b r : ℤ) → r ≤ℤ (b +ℤ wire.space) → b ≤ℤ x → r ≤ℤ (x +ℤ wire.space)
      behind b r a k = omega (arith, ints, a, k)

      before : (b r w : ℤ) → b ≤ℤ (r +ℤ wire.space) → x <ℤ b → pos 1 ≤ℤ w → x <ℤ (r +ℤ (w +ℤ wire.space))
      before b r w a k u = omega (arith, ints, a, k, u)

    abbrev IsLine : ℤ → Type 0
    IsLine y = IsSliceFoot other kit wire many g m y ⊎ (IsSliceTop other kit wire many g m y ⊎ IsColumnFoot other kit wire many g m y)

    line_row : (y : ℤ) → IsLine y → ((pos (kit.height Inv) ≤ℤ y) × (y <ℤ g.write_y)) ⊎ ((column_channel_y kit g ≤ℤ y) × (y <ℤ g.column_y))
    line_row y (inl e) = slice_foot other kit wire many g m y e
    line_row y (inr (inl e)) = slice_top other kit wire many g m y e
    line_row y (inr (inr e)) = column_foot other kit wire many g m y e

    -- tracks keep off these rows
    track_off : (x y : ℤ) → IsLine y → IsTrackCell x y → ⊥
    track_off x y line t =
        let a = t.within.0 in
        let b = t.within.1 in
        let ls = l.sense in
        let lc = l.channel in
        let lm = l.column in
        let up = column_high other kit wire many g m in
        let sp = m.laid.sizes.space.from in
        elim line [
          | inl e ↦ elim t.channel [ inl main ↦ let p = main.1 in omega (arith, ints, e, b, p) | inr column ↦ let p = column.0 in omega (arith, ints, e, a, p, ls, lc, sp) ]
          | inr rest ↦ elim rest [
            | inl e ↦ elim t.channel [ inl main ↦ let p = main.1 in omega (arith, ints, e, b, p, ls, lc, sp) | inr column ↦ let p = column.0 in omega (arith, ints, e, a, p) ]
            | inr e ↦ elim t.channel [ inl main ↦ let p = main.1 in omega (arith, ints, e, b, p, up) | inr column ↦ let p = column.1 in omega (arith, ints, e, b, p) ]
          ]
        ]

    bare_row : (x y : ℤ) → IsLine y → box.x1 ≤ℤ x → x <ℤ box.x2 → Covers x y → ⊥
    bare_row x y line left right has = elim (kind_of x y has) [
      | inl leaf ↦ leaf_out x y leaf (line_row y line)
      | inr w ↦ elim w [
        | inl t ↦ track_off x y line t
        | inr r ↦ off_rails x y left right r
      ]
    ]

    under_line : (line x y : ℤ) → HasCell box x y → IsLine (line -ℤ wire.space) → line ≤ℤ z.low → (y +ℤ wire.space) <ℤ line → ⊥
    under_line line x y inside is over under = bare_row x (line -ℤ wire.space) is inside.left inside.right (covered x (line -ℤ wire.space) (cell_under wire reach z near d box at line x y inside over under))

    over_line : (line x y : ℤ) → HasCell box x y → IsLine ((line +ℤ wire.space) -ℤ pos 1) → z.high ≤ℤ line → (line +ℤ wire.space) ≤ℤ y → ⊥
    over_line line x y inside is under over = bare_row x ((line +ℤ wire.space) -ℤ pos 1) is inside.left inside.right (covered x ((line +ℤ wire.space) -ℤ pos 1) (cell_over wire reach z near d box at line x y inside under over))

  wire_out : (x y : ℤ) → HasCell box x y → IsTrackCell x y ⊎ IsRailCell x y → ⊥
  wire_out x y inside w =
      let up = column_high other kit wire many g m in
      elim kind [
        | inl upper ↦
            let above : g.write_y ≤ℤ z.low = let p = upper.2 in omega (arith, ints, p, up) in
            elim w [
              | inl t ↦ under_line upper.0 upper.1 above g.column_y x y inside (inr (inr (under_columns other kit wire many g m))) upper.2 (let b = t.within.1 in elim t.channel [ inl main ↦ let p = main.1 in omega (arith, ints, b, p, up) | inr column ↦ let p = column.1 in omega (arith, ints, b, p) ])
              | inr r ↦ off_rails upper.0 upper.1 above x y inside.left inside.right r
            ]
        | inr rest ↦ elim rest [
          | inl slices ↦ elim w [
            | inl t ↦ elim t.channel [
              | inl main ↦ under_line slices.0 slices.1 slices.2 g.write_y x y inside (inl (under_slices other kit wire many g m)) slices.2 (let b = t.within.1 in let p = main.1 in omega (arith, ints, b, p))
              | inr column ↦ over_line slices.0 slices.1 slices.2 (column_channel_y kit g) x y inside (inr (inl (over_slices other kit wire many g m))) slices.3 (let a = t.within.0 in let p = column.0 in omega (arith, ints, a, p))
            ]
            | inr r ↦ off_rails slices.0 slices.1 slices.2 x y inside.left inside.right r
          ]
          | inr row ↦ at_logic row.1 x y inside w
        ]
      ]

  pub cut_out : (x y : ℤ) → HasCell box x y → IsWireCell Flat other kit bits wire many g by from h cut x y → ⊥
  cut_out x y inside w = wire_out x y inside (wire_kind x y w)
