-- A box that the fourth metal covers near a zone in one memory is covered in another.
use Rattle.std.proofs.Common.{◌≡◌, ◌⊎◌, inl, inr, ◌∙◌, ℕ, ℤ, pos, ◌+ℤ◌, ◌-ℤ◌, ◌≤ℤ◌, ◌<ℤ◌, List, ap, subst, arith}
use Rattle.std.specs.Prelude.{slice_index}
use Rattle.std.proofs.lemmas.Int.{ints}
use Rattle.or_geom.specs.declared.shape.Rect.{Rect}
use Rattle.or_geom.specs.declared.shape.Shape.{Shape}
use Rattle.or_geom.specs.Covered.{HasCell, HasCellInSome}
use Rattle.shape_bins.specs.Layers.{rects_on, IsCoveredBy}
use Rattle.cell_roles.specs.declared.role.Role.{Role}
use Rattle.cell_roles.specs.declared.role.Role.TheVariants.{Inv}
use Rattle.tech_rules.specs.declared.tech.Wire.{Wire}
use Rattle.sram_netlist.specs.Organization.{Organization}
use Rattle.sram_netlist.specs.Netlist.{role}
use Rattle.sram_netlist.specs.BitCells.{BitCells}
use Rattle.macro_layout.specs.LayoutKit.{LayoutKit}
use Rattle.macro_layout.specs.Places.{Floorplan, bank_x}
use Rattle.macro_layout.specs.Floorplan.{Tracks, column_channel_y}
use Rattle.local_report.specs.Moved.{IsMovedBy}
use Rattle.local_report.proofs.MovedLaws.{moved_rect}
use Rattle.good_places.specs.Leaves.{Zone, zone_of, LiesNear, AreNearZones, ReachesNeighboursOnly}
use Rattle.good_places.specs.Zones.{MovesNear}
use Rattle.leaf_shapes.specs.Outline.{IsWireLayer}
use Rattle.good_places.proofs.LaidLaws.{Numbers, numbers}
use Rattle.good_wires.specs.Drawn.{IsDrawnMemory}
use Rattle.good_wires.specs.Kept.{HasDrawnShapes}
use Rattle.good_wires.specs.Tops.{IsTopBranch, IsOutputAt, HasTopWires}
use Rattle.good_wires.proofs.LevelLaws.{Levels, levels, Sides, sides}
use Rattle.good_wires.proofs.ClearLaws.{ZoneKind, IsBankZone, write_high, column_high}
use Rattle.upright_covers.proofs.BoxLaws.{IsLeafCell, IsWireCell, cells_near}
use Rattle.upright_covers.proofs.AtLaws.{IsBoxAt, cell_over, placed_lies, placed_moves}
use Rattle.upright_covers.proofs.ApartLaws.{AreOneOrApart, row_narrow, fourth_apart}
use Rattle.upright_covers.proofs.ChannelRowLaws.{IsSliceTop, over_logic, over_slices, slice_top, zone_off_channels}
use Rattle.upright_covers.proofs.GapLaws.{IsGapColumn, no_rail, box_left, box_right}
use Rattle.upright_covers.proofs.FourthKindLaws.{IsRailCell, IsBranchCell, IsRowBranch, Kind, under_pin, kind_of, low_row, gap_column, output_cell, branch_row, row_branch}

-- a branch's instance is near, where the branch covers a cell of the box
branch_near : (wire : Wire) (reach : ℤ) (z near pz : Zone) (d edge : ℤ) (box rect b : Rect) (x y : ℤ) → IsBoxAt wire reach z near d box → LiesNear (pos 0) pz rect → edge ≤ℤ z.low → pz.low ≤ℤ edge → edge ≤ℤ rect.y1 → rect.x2 ≡ rect.x1 +ℤ wire.width → b.x1 ≡ rect.x1 → b.x2 ≡ rect.x1 +ℤ wire.width → b.y2 ≡ edge → HasCell box x y → HasCell b x y
    → AreNearZones reach pz near
branch_near wire reach z near pz d edge box rect b x y at pin under low over wide dl dr dh inside has =
    let l = at.lies in
    let felt = at.felt in
    let tall = rect.tall in
    record {
      left = let p = pin.left in let q = has.left in let r = inside.right in let s = l.right in omega (arith, ints, p, q, r, s, dl, felt);
      right = let p = pin.right in let q = has.right in let r = inside.left in let s = l.left in omega (arith, ints, p, q, r, s, dr, wide, felt);
      low = let p = at.zones.low in omega (arith, ints, p, under, low);
      high = let p = pin.high in let q = has.high in let r = inside.low in let s = l.low in omega (arith, ints, p, q, r, s, dh, over, tall, felt);
    }

edge_moved : (rect r edge other dy : ℤ) (n k : ℕ) → rect ≡ edge +ℤ pos n → r ≡ other +ℤ pos k → k ≡ n → r ≡ rect +ℤ dy → other ≡ edge +ℤ dy
edge_moved rect r edge other dy n k a b e m = omega (arith, ints, a, b, e, m)

-- the other memory's branch covers it, moved
branch_holds : (wire : Wire) (z : Zone) (dx dy edge : ℤ) (box rect b r t : Rect) (x y low : ℤ) → z.low ≤ℤ (box.y1 +ℤ (wire.space +ℤ wire.width)) → edge ≤ℤ z.low → b.x1 ≡ rect.x1 → b.x2 ≡ rect.x1 +ℤ wire.width → b.y2 ≡ edge → IsMovedBy dx dy rect r
    → t.x1 ≡ r.x1 → t.x2 ≡ r.x1 +ℤ wire.width → t.y1 ≡ low → t.y2 ≡ edge +ℤ dy → (low +ℤ (wire.space +ℤ wire.width)) ≤ℤ (edge +ℤ dy) → HasCell box x y → HasCell b x y → HasCell t (x +ℤ dx) (y +ℤ dy)
branch_holds wire z dx dy edge box rect b r t x y low down under dl dr dh moved tl tr tb th long inside has = record {
  left = let p = has.left in let q = moved.x1 in omega (arith, ints, p, q, tl, dl);
  right = let p = has.right in let q = moved.x1 in omega (arith, ints, p, q, tr, dr);
  low = let p = inside.low in omega (arith, ints, p, down, tb, long, under);
  high = let p = has.high in omega (arith, ints, p, th, dh);
}

output_holds : (wire : Wire) (dx dy edge other : ℤ) (rect b r t : Rect) (x y : ℤ) → b.x1 ≡ rect.x1 → b.x2 ≡ rect.x1 +ℤ wire.width → b.y1 ≡ edge → b.y2 ≡ rect.y1 → IsMovedBy dx dy rect r
    → t.x1 ≡ r.x1 → t.x2 ≡ r.x1 +ℤ wire.width → t.y1 ≡ other → t.y2 ≡ r.y1 → other ≡ edge +ℤ dy → HasCell b x y → HasCell t (x +ℤ dx) (y +ℤ dy)
output_holds wire dx dy edge other rect b r t x y dl dr db dh moved tl tr tb th e has = record {
  left = let p = has.left in let q = moved.x1 in omega (arith, ints, p, q, tl, dl);
  right = let p = has.right in let q = moved.x1 in omega (arith, ints, p, q, tr, dr);
  low = let p = has.low in omega (arith, ints, p, tb, db, e);
  high = let p = has.high in let q = moved.y1 in omega (arith, ints, p, q, th, dh);
}

module _ (Met Out : Role → ℕ → Type 0) (drop : Role → ℕ) (Flat : List ℕ → Shape → Type 0) (plan other : Organization) (kit : LayoutKit) (bits : BitCells) (wire : Wire) (tracks many : Tracks) (f g : Floorplan) (by reach : ℤ) (from to : List Shape) (short : ReachesNeighboursOnly kit wire reach)
    (flat : HasDrawnShapes Flat plan kit bits wire tracks f by to) (h : HasDrawnShapes Flat other kit bits wire many g by from) (here : HasTopWires Met Out drop plan kit wire tracks f) (there : HasTopWires Met Out drop other kit wire many g) (own : IsWireLayer wire (slice_index wire.metals 3))
    (dx dy : ℤ) (z near : Zone) (moves : MovesNear reach other g near plan f kit bits dx dy) (kind : ZoneKind other kit wire many g h.drawn z) (d : ℤ) (box : Rect) (at : IsBoxAt wire reach z near d box) (covered : IsCoveredBy (slice_index wire.metals 3) from box) where
  abbrev metal : ℕ
  metal = slice_index wire.metals 3

  abbrev m : IsDrawnMemory other kit wire many g
  m = h.drawn

  l : Levels other kit wire g
  l = levels other kit wire many g h.drawn.laid.sizes h.drawn.stands

  s_of : Sides other kit wire g
  s_of = sides other kit wire many g h.drawn.laid.sizes h.drawn.stands

  heights : Numbers other kit g reach
  heights = numbers other kit wire g reach h.drawn.laid short

  abbrev Leaf : ℤ → ℤ → Type 0
  Leaf x y = IsLeafCell Flat other kit bits wire many g by from h metal x y

  abbrev WireAt : ℤ → ℤ → Type 0
  WireAt x y = IsWireCell Flat other kit bits wire many g by from h metal x y

  -- At a bank's zone

  module _ (bank : ℕ) (in_bank : IsBankZone other kit wire many g m bank z) (above : g.write_y ≤ℤ z.low) where
    bare_column : (x y : ℤ) → IsGapColumn other kit wire many g m bank x → g.write_y ≤ℤ (y +ℤ wire.space) → HasCellInSome (rects_on metal from) x y → ⊥
    bare_column x y gap over has = let w = write_high other kit wire many g m in gap_column Met Out drop Flat other kit bits wire many g by from h there own bank x y gap (omega (arith, ints, w, over)) (kind_of Met Out drop Flat other kit bits wire many g by from h there own x y has)

    left_end : bank_x g bank g.row_x ≤ℤ (box.x1 +ℤ wire.space)
    left_end = box_left other kit wire many g m bank z near in_bank above reach d box at (HasCellInSome (rects_on metal from)) covered bare_column

    right_end : box.x2 ≤ℤ (bank_x g bank g.bank_width +ℤ wire.space)
    right_end = box_right other kit wire many g m bank z near in_bank above reach d box at (HasCellInSome (rects_on metal from)) covered bare_column

    -- no rail stands in the box's columns
    off_rails : (x y : ℤ) → box.x1 ≤ℤ x → x <ℤ box.x2 → IsRailCell Met Out drop Flat other kit bits wire many g by from h there own x y → ⊥
    off_rails x y left right r = no_rail other kit wire many g m bank r.rail.bank x r.shape.rect.x1 r.shape.rect.x2 (behind box.x1 (bank_x g bank g.row_x) wire.space left_end left) (before box.x2 (bank_x g bank g.bank_width) wire.space wire.width right_end right m.laid.sizes.width.from) r.rail.from r.rail.to r.holds.left r.holds.right where
      behind : (b r s : ℤ) → r ≤ℤ (b +ℤ s) → b ≤ℤ x → r ≤ℤ (x +ℤ s)
      behind b r s a k = omega (arith, ints, a, k)

      before : (b r s w : ℤ) → b ≤ℤ (r +ℤ s) → x <ℤ b → pos 1 ≤ℤ w → x <ℤ (r +ℤ (w +ℤ s))
      before b r s w a k u = omega (arith, ints, a, k, u)

    -- the row before the lowest track of the channel above the slices
    high_row : (x y : ℤ) → box.x1 ≤ℤ x → x <ℤ box.x2 → IsSliceTop other kit wire many g m y → Kind Met Out drop Flat other kit bits wire many g by from h there own x y → ⊥
    high_row x y left right e k =
        let sp = m.laid.sizes.space.from in
        let ls = l.sense in
        let lc = l.channel in
        elim k [
          | inl cell ↦ zone_off_channels other kit wire many g m cell.zone x y cell.stands cell.within (slice_top other kit wire many g m y e)
          | inr rest ↦ elim rest [
            | inl rail ↦ off_rails x y left right rail
            | inr b ↦
                let q = b.holds.low in
                let r = b.holds.high in
                let bl = b.branch.drawn.low in
                let bh = b.branch.drawn.high in
                elim b.branch.kind [
                  | inl write ↦ let p = write.0 in omega (arith, ints, e, r, bh, p, ls, lc, sp)
                  | inr column ↦ let p = column.1 in omega (arith, ints, e, q, bl, p)
                ]
          ]
        ]

  -- A branch that covers a cell of the box leads down from the zone's row

  at_logic : (z.high ≤ℤ pos (kit.height Inv)) → (x y : ℤ) → HasCell box x y → (pos (kit.height Inv) +ℤ wire.space) ≤ℤ y → ⊥
  at_logic row x y inside over =
      let line = (pos (kit.height Inv) +ℤ wire.space) -ℤ pos 1 in
      low_row Met Out drop Flat other kit bits wire many g by from h there own x line (over_logic other kit wire many g m) (kind_of Met Out drop Flat other kit bits wire many g by from h there own x line (covered x line (cell_over wire reach z near d box at (pos (kit.height Inv)) x y inside row over)))

  at_slices : (bank : ℕ) → IsBankZone other kit wire many g m bank z → g.write_y ≤ℤ z.low → z.high ≤ℤ column_channel_y kit g → (x y : ℤ) → HasCell box x y → (column_channel_y kit g +ℤ wire.space) ≤ℤ y → ⊥
  at_slices bank in_bank above row x y inside over =
      let line = (column_channel_y kit g +ℤ wire.space) -ℤ pos 1 in
      high_row bank in_bank above x line inside.left inside.right (over_slices other kit wire many g m) (kind_of Met Out drop Flat other kit bits wire many g by from h there own x line (covered x line (cell_over wire reach z near d box at (column_channel_y kit g) x y inside row over)))

  attached : (x y : ℤ) → HasCell box x y → (b : Shape) (c : IsTopBranch Met drop other kit wire g b) → HasCell b.rect x y → c.edge ≤ℤ z.low
  attached x y inside b c has =
      let w = write_high other kit wire many g m in
      let u = column_high other kit wire many g m in
      let low = has.low in
      let high = has.high in
      let bl = c.drawn.low in
      let bh = c.drawn.high in
      let ls = l.sense in
      let lc = l.channel in
      elim c.kind [
        | inl write ↦
            let e = write.0 in
            let p = write.1 in
            elim kind [
              | inl upper ↦ let q = upper.2 in omega (arith, ints, e, q, u)
              | inr rest ↦ elim rest [
                | inl slices ↦ let q = slices.2 in omega (arith, ints, e, q)
                | inr row ↦ absurd (at_logic row.1 x y inside (omega (arith, ints, p, low, bl)))
              ]
            ]
        | inr column ↦
            let e = column.0 in
            let p = column.1 in
            elim kind [
              | inl upper ↦ let q = upper.2 in omega (arith, ints, e, q)
              | inr rest ↦ elim rest [
                | inl slices ↦ absurd (at_slices slices.0 slices.1 slices.2 slices.3 x y inside (omega (arith, ints, p, low, bl)))
                | inr row ↦ absurd (at_logic row.1 x y inside (omega (arith, ints, p, low, bl, w, ls, lc)))
              ]
            ]
      ]

  rail_out : (x y : ℤ) → HasCell box x y → IsRailCell Met Out drop Flat other kit bits wire many g by from h there own x y → ⊥
  rail_out x y inside r = elim kind [
    | inl upper ↦ off_rails upper.0 upper.1 (let a = upper.2 in let u = column_high other kit wire many g m in omega (arith, ints, a, u)) x y inside.left inside.right r
    | inr rest ↦ elim rest [
      | inl slices ↦ off_rails slices.0 slices.1 slices.2 x y inside.left inside.right r
      | inr row ↦ at_logic row.1 x y inside (let p = r.rail.low in let q = r.holds.low in omega (arith, ints, p, q))
    ]
  ]

  branch_kept : z.low ≤ℤ (box.y1 +ℤ (wire.space +ℤ wire.width)) → (x y : ℤ) → HasCell box x y → (b : Shape) (c : IsTopBranch Met drop other kit wire g b) → HasCell b.rect x y → IsWireCell Flat plan kit bits wire tracks f by to flat metal (x +ℤ dx) (y +ℤ dy)
  branch_kept down x y inside b c has =
      let pz = zone_of other kit g c.leaf c.pin.place in
      let under = attached x y inside b c has in
      let over = under_pin c.rect.y1 c.edge (drop (role other c.leaf)) c.at in
      let close = branch_near wire reach z near pz d c.edge box c.rect b.rect x y at (placed_lies Met 3 other kit wire many g m c.leaf c.rect c.pin) under c.zone over (there.wide c.leaf c.rect c.pin) c.drawn.left c.drawn.right c.drawn.high inside has in
      let s = moves c.leaf c.pin.place c.pin.has c.pin.stands close in
      let r = moved_rect dx dy c.rect in
      let t = here.from s.leaf r.0 (placed_moves Met 3 plan other kit bits f g dx dy c.leaf c.rect c.pin s r.0 r.1) in
      let edge = edge_moved c.rect.y1 r.0.y1 c.edge t.3 dy (drop (role other c.leaf)) (drop (role plan s.leaf)) c.at t.4 (ap drop s.same_role) r.1.y1 in
      record {
        shape = t.0;
        on = t.5.on;
        holds = branch_holds wire z dx dy c.edge box c.rect b.rect r.0 t.0.rect x y t.2 down under c.drawn.left c.drawn.right c.drawn.high r.1 t.5.left t.5.right t.5.low (t.5.high ∙ edge) (subst (λ (q : ℤ). (t.2 +ℤ (wire.space +ℤ wire.width)) ≤ℤ q) edge t.6) inside has;
        is = t.1;
      }

  output_kept : (x y : ℤ) → HasCell box x y → (b : Shape) (c : IsOutputAt Out drop other kit wire g b) → HasCell b.rect x y → IsWireCell Flat plan kit bits wire tracks f by to flat metal (x +ℤ dx) (y +ℤ dy)
  output_kept x y inside b c has =
      let close = cells_near d reach (zone_of other kit g c.leaf c.pin.place) near box x y at.lies at.felt inside (output_cell Met Out drop Flat other kit bits wire many g by from h there own x y b c has) in
      let s = moves c.leaf c.pin.place c.pin.has c.pin.stands close in
      let r = moved_rect dx dy c.rect in
      let t = here.from_out s.leaf r.0 (placed_moves Out 3 plan other kit bits f g dx dy c.leaf c.rect c.pin s r.0 r.1) in
      let edge = edge_moved c.rect.y1 r.0.y1 c.edge t.2 dy (drop (role other c.leaf)) (drop (role plan s.leaf)) c.at t.3 (ap drop s.same_role) r.1.y1 in
      record {
        shape = t.0;
        on = t.4.on;
        holds = output_holds wire dx dy c.edge t.2 c.rect b.rect r.0 t.0.rect x y c.drawn.left c.drawn.right c.drawn.low c.drawn.high r.1 t.4.left t.4.right t.4.low t.4.high edge has;
        is = t.1;
      }

  -- each wire that covers a cell of the box covers it, moved, here
  pub fourth_kept : z.low ≤ℤ (box.y1 +ℤ (wire.space +ℤ wire.width)) → (x y : ℤ) → HasCell box x y → IsWireCell Flat other kit bits wire many g by from h metal x y → IsWireCell Flat plan kit bits wire tracks f by to flat metal (x +ℤ dx) (y +ℤ dy)
  fourth_kept down x y inside w = elim (there.to w.shape w.is w.on) [
    | inl rail ↦ absurd (rail_out x y inside (record { shape = w.shape; rail = rail; holds = w.holds }))
    | inr rest ↦ elim rest [
      | inl c ↦ branch_kept down x y inside w.shape c w.holds
      | inr c ↦ output_kept x y inside w.shape c w.holds
    ]
  ]

  -- A row of the box in which a branch covers a cell has branches alone, and is no wider than a wire.

  row_of_branches : (x y : ℤ) → HasCell box x y → IsBranchCell Met Out drop Flat other kit bits wire many g by from h there own x y → box.x2 ≤ℤ (box.x1 +ℤ wire.width)
  row_of_branches x y inside b = row_narrow wire.space wire.width box (IsRowBranch Met Out drop Flat other kit bits wire many g by from h there own y) m.laid.sizes.space.from wide apart all where
    wide : (s : Shape) → IsRowBranch Met Out drop Flat other kit bits wire many g by from h there own y s → s.rect.x2 ≤ℤ (s.rect.x1 +ℤ wire.width)
    wide s r = let e = r.wide in omega (arith, ints, e)

    apart : (s u : Shape) → IsRowBranch Met Out drop Flat other kit bits wire many g by from h there own y s → IsRowBranch Met Out drop Flat other kit bits wire many g by from h there own y u → AreOneOrApart wire.space s.rect u.rect
    apart s u r q = fourth_apart other kit wire many g m s u y r.on q.on r.is q.is r.under q.under

    all : (u : ℤ) → box.x1 ≤ℤ u → u <ℤ box.x2 → (s : Shape) × IsRowBranch Met Out drop Flat other kit bits wire many g by from h there own y s × (s.rect.x1 ≤ℤ u) × (u <ℤ s.rect.x2)
    all u left right =
        let cell : HasCell box u y = record { left = left; right = right; low = inside.low; high = inside.high } in
        elim (kind_of Met Out drop Flat other kit bits wire many g by from h there own u y (covered u y cell)) [
          | inl instance ↦ absurd (zone_off_channels other kit wire many g m instance.zone u y instance.stands instance.within (branch_row Met Out drop Flat other kit bits wire many g by from h there own x y b))
          | inr rest ↦ elim rest [
            | inl rail ↦ absurd (rail_out u y cell rail)
            | inr v ↦ (v.shape, row_branch Met Out drop Flat other kit bits wire many g by from h there own u y v, v.holds.left, v.holds.right)
          ]
        ]

  -- a wire that covers a cell is a branch, or covers it, moved, here
  pub fourth_cases : (x y : ℤ) → HasCell box x y → (w : IsWireCell Flat other kit bits wire many g by from h metal x y) → (box.x2 ≤ℤ (box.x1 +ℤ wire.width)) ⊎ IsWireCell Flat plan kit bits wire tracks f by to flat metal (x +ℤ dx) (y +ℤ dy)
  fourth_cases x y inside w = elim (there.to w.shape w.is w.on) [
    | inl rail ↦ absurd (rail_out x y inside (record { shape = w.shape; rail = rail; holds = w.holds }))
    | inr rest ↦ elim rest [
      | inl c ↦ inl (row_of_branches x y inside (record { shape = w.shape; branch = c; is = w.is; on = w.on; holds = w.holds }))
      | inr c ↦ inr (output_kept x y inside w.shape c w.holds)
    ]
  ]
