-- A box that the second metal covers near a zone in one memory is covered in another.
use Rattle.std.proofs.Common.{◌≡◌, ◌⊎◌, inl, inr, ℕ, ℤ, pos, ◌+ℤ◌, ◌-ℤ◌, ◌≤ℤ◌, ◌<ℤ◌, List, arith}
use Rattle.std.specs.Prelude.{slice_index}
use Rattle.std.proofs.lemmas.Int.{ints, by_lt_z}
use Rattle.or_geom.specs.declared.shape.Rect.{Rect}
use Rattle.or_geom.specs.declared.shape.Shape.{Shape}
use Rattle.or_geom.specs.Covered.{HasCell, HasCellInSome}
use Rattle.shape_bins.specs.Layers.{rects_on, IsCoveredBy}
use Rattle.cell_roles.specs.declared.role.Role.{Role}
use Rattle.tech_rules.specs.declared.tech.Wire.{Wire}
use Rattle.sram_netlist.specs.Organization.{Organization}
use Rattle.sram_netlist.specs.BitCells.{BitCells}
use Rattle.macro_layout.specs.LayoutKit.{LayoutKit}
use Rattle.macro_layout.specs.Places.{Floorplan}
use Rattle.macro_layout.specs.Floorplan.{Tracks}
use Rattle.macro_layout.specs.Wires.{trunk_x}
use Rattle.local_report.specs.Moved.{IsMovedBy}
use Rattle.local_report.proofs.MovedLaws.{moved_rect}
use Rattle.good_places.specs.Leaves.{Zone, zone_of, LiesNear, AreNearZones, ReachesNeighboursOnly}
use Rattle.good_places.specs.Zones.{MovesNear}
use Rattle.leaf_shapes.specs.Outline.{IsWireLayer}
use Rattle.good_places.proofs.LaidLaws.{Numbers, numbers}
use Rattle.good_wires.specs.Drawn.{IsDrawnMemory, IsDrawnWire}
use Rattle.good_wires.specs.Kept.{HasDrawnShapes}
use Rattle.good_wires.specs.Branches.{IsBottomBranch, HasBottomBranches}
use Rattle.good_wires.proofs.LevelLaws.{Levels, levels}
use Rattle.good_wires.proofs.ClearLaws.{ZoneKind, zone_kind, column_high}
use Rattle.upright_covers.proofs.BoxLaws.{IsLeafCell, IsWireCell, cell_kind}
use Rattle.upright_covers.proofs.AtLaws.{IsBoxAt, cell_under, zone_before_trunk, placed_lies, placed_moves}
use Rattle.upright_covers.proofs.ApartLaws.{AreOneOrApart, IsInRow, row_narrow, second_apart}
use Rattle.upright_covers.proofs.ChannelRowLaws.{IsChannelRow, under_slices, under_columns, slice_foot, column_foot, zone_off_channels}

-- a branch's instance is near, where the branch covers a cell of the box
branch_near : (wire : Wire) (reach : ℤ) (z near pz : Zone) (d : ℤ) (box rect b : Rect) (x y : ℤ) → IsBoxAt wire reach z near d box → LiesNear (pos 0) pz rect → z.high ≤ℤ rect.y2 → rect.x2 ≡ rect.x1 +ℤ wire.width → b.x1 ≡ rect.x1 → b.x2 ≡ rect.x1 +ℤ wire.width → b.y1 ≡ rect.y2 → HasCell box x y → HasCell b x y
    → AreNearZones reach pz near
branch_near wire reach z near pz d box rect b x y at pin top wide dl dr db inside has =
    let l = at.lies in
    let felt = at.felt in
    let tall = rect.tall in
    record {
      left = let p = pin.left in let q = has.left in let r = inside.right in let s = l.right in omega (arith, ints, p, q, r, s, dl, felt);
      right = let p = pin.right in let q = has.right in let r = inside.left in let s = l.left in omega (arith, ints, p, q, r, s, dr, wide, felt);
      low = let p = pin.low in let q = has.low in let r = inside.high in let s = l.high in omega (arith, ints, p, q, r, s, db, tall, felt);
      high = let p = pin.high in let q = at.zones.high in omega (arith, ints, p, q, top);
    }

-- the other memory's branch covers it, moved
branch_holds : (wire : Wire) (z : Zone) (dx dy : ℤ) (box rect b r t : Rect) (x y high : ℤ) → box.y2 ≤ℤ (z.high +ℤ (wire.space +ℤ wire.width)) → z.high ≤ℤ rect.y2 → b.x1 ≡ rect.x1 → b.x2 ≡ rect.x1 +ℤ wire.width → b.y1 ≡ rect.y2 → IsMovedBy dx dy rect r
    → t.x1 ≡ r.x1 → t.x2 ≡ r.x1 +ℤ wire.width → t.y1 ≡ r.y2 → t.y2 ≡ high → (r.y2 +ℤ (wire.space +ℤ wire.width)) ≤ℤ high → HasCell box x y → HasCell b x y → HasCell t (x +ℤ dx) (y +ℤ dy)
branch_holds wire z dx dy box rect b r t x y high up top dl dr db moved tl tr tb th long inside has = record {
  left = let p = has.left in let q = moved.x1 in omega (arith, ints, p, q, tl, dl);
  right = let p = has.right in let q = moved.x1 in omega (arith, ints, p, q, tr, dr);
  low = let p = has.low in let q = moved.y2 in omega (arith, ints, p, q, tb, db);
  high = let p = inside.high in let q = moved.y2 in omega (arith, ints, p, q, up, th, long, top);
}

module _ (Met : Role → ℕ → Type 0) (Flat : List ℕ → Shape → Type 0) (plan other : Organization) (kit : LayoutKit) (bits : BitCells) (wire : Wire) (tracks many : Tracks) (f g : Floorplan) (by reach : ℤ) (from to : List Shape) (short : ReachesNeighboursOnly kit wire reach)
    (flat : HasDrawnShapes Flat plan kit bits wire tracks f by to) (h : HasDrawnShapes Flat other kit bits wire many g by from) (here : HasBottomBranches Met plan kit wire tracks f) (there : HasBottomBranches Met other kit wire many g) (own : IsWireLayer wire (slice_index wire.metals 1))
    (dx dy : ℤ) (z near : Zone) (moves : MovesNear reach other g near plan f kit bits dx dy) (kind : ZoneKind other kit wire many g h.drawn z) (d : ℤ) (box : Rect) (at : IsBoxAt wire reach z near d box) (covered : IsCoveredBy (slice_index wire.metals 1) from box) where
  abbrev metal : ℕ
  metal = slice_index wire.metals 1

  abbrev m : IsDrawnMemory other kit wire many g
  m = h.drawn

  l : Levels other kit wire g
  l = levels other kit wire many g h.drawn.laid.sizes h.drawn.stands

  n : Numbers other kit g reach
  n = numbers other kit wire g reach h.drawn.laid short

  abbrev Leaf : ℤ → ℤ → Type 0
  Leaf x y = IsLeafCell Flat other kit bits wire many g by from h metal x y

  abbrev WireAt : ℤ → ℤ → Type 0
  WireAt x y = IsWireCell Flat other kit bits wire many g by from h metal x y

  of_cell : (x y : ℤ) → HasCell box x y → Leaf x y ⊎ WireAt x y
  of_cell x y inside = cell_kind Flat other kit bits wire many g by from h metal x y own (covered x y inside)

  -- a branch ends before the trunks of the supplies
  branch_right : (b : Shape) (c : IsBottomBranch Met other kit wire g b) → (b.rect.x2 +ℤ wire.space) ≤ℤ trunk_x other kit wire g
  branch_right b c =
      go b.rect.x2 c.rect.x1 c.rect.x2 (zone_of other kit g c.leaf c.pin.place).right wire.width wire.space (trunk_x other kit wire g) c.drawn.right (there.wide c.leaf c.rect c.pin) (placed_lies Met 1 other kit wire many g m c.leaf c.rect c.pin).right
      (zone_before_trunk other kit wire many g m (zone_of other kit g c.leaf c.pin.place) (zone_kind other kit wire many g m c.leaf c.pin.place c.pin.has c.pin.stands))
    where
      go : (bx x1 x2 zr w s t : ℤ) → bx ≡ x1 +ℤ w → x2 ≡ x1 +ℤ w → x2 ≤ℤ (zr +ℤ pos 0) → (zr +ℤ s) ≤ℤ t → (bx +ℤ s) ≤ℤ t
      go bx x1 x2 zr w s t a b e k = omega (arith, ints, a, b, e, k)

  -- no cell of the metal stands in the last column before them
  gap_column : (x y : ℤ) → x +ℤ pos 1 ≡ trunk_x other kit wire g → HasCellInSome (rects_on metal from) x y → ⊥
  gap_column x y before has = elim (cell_kind Flat other kit bits wire many g by from h metal x y own has) [
    | inl leaf ↦ go x (zone_of other kit g leaf.of.leaf leaf.of.place).right wire.space (trunk_x other kit wire g) before (zone_before_trunk other kit wire many g m (zone_of other kit g leaf.of.leaf leaf.of.place) leaf.kind) leaf.within.right m.laid.sizes.space.from
    | inr w ↦ elim (there.to w.shape w.is w.on) [
      | inl trunk ↦ behind x w.shape.rect.x1 (trunk_x other kit wire g) before trunk w.holds.left
      | inr c ↦ go x w.shape.rect.x2 wire.space (trunk_x other kit wire g) before (branch_right w.shape c) w.holds.right m.laid.sizes.space.from
    ]
  ] where
    go : (x right s t : ℤ) → x +ℤ pos 1 ≡ t → (right +ℤ s) ≤ℤ t → x <ℤ right → pos 1 ≤ℤ s → ⊥
    go x right s t e a b k = omega (arith, ints, e, a, b, k)

    behind : (x left t : ℤ) → x +ℤ pos 1 ≡ t → t ≤ℤ left → left ≤ℤ x → ⊥
    behind x left t e a b = omega (arith, ints, e, a, b)

  -- so the box ends before them
  no_trunk : (x y : ℤ) → HasCell box x y → trunk_x other kit wire g ≤ℤ x → ⊥
  no_trunk x y inside le =
      let t = trunk_x other kit wire g in
      gap_column (t -ℤ pos 1) y (one t) (covered (t -ℤ pos 1) y (record { left = left box.x1 z.right wire.space t at.right (zone_before_trunk other kit wire many g m z kind); right = right t x box.x2 le inside.right; low = inside.low; high = inside.high }))
    where
      one : (t : ℤ) → (t -ℤ pos 1) +ℤ pos 1 ≡ t
      one t = omega (arith, ints)

      left : (bx zr s t : ℤ) → bx <ℤ (zr +ℤ s) → (zr +ℤ s) ≤ℤ t → bx ≤ℤ (t -ℤ pos 1)
      left bx zr s t a b = omega (arith, ints, a, b)

      right : (t x bx : ℤ) → t ≤ℤ x → x <ℤ bx → (t -ℤ pos 1) <ℤ bx
      right t x bx a b = omega (arith, ints, a, b)

  -- nor does it stand a space below the write cells or the columns
  gap_row : (x y : ℤ) → (x <ℤ trunk_x other kit wire g) → (y +ℤ wire.space ≡ g.write_y) ⊎ (y +ℤ wire.space ≡ g.column_y) → HasCellInSome (rects_on metal from) x y → ⊥
  gap_row x y before which has = elim (cell_kind Flat other kit bits wire many g by from h metal x y own has) [
    | inl leaf ↦ zone_off_channels other kit wire many g m _ x y leaf.kind leaf.within (elim which [ inl e ↦ slice_foot other kit wire many g m y e | inr e ↦ column_foot other kit wire many g m y e ])
    | inr w ↦ elim (there.to w.shape w.is w.on) [
      | inl trunk ↦ behind x w.shape.rect.x1 (trunk_x other kit wire g) before trunk w.holds.left
      | inr c ↦ wire_row w c which
    ]
  ] where
    behind : (x left t : ℤ) → x <ℤ t → t ≤ℤ left → left ≤ℤ x → ⊥
    behind x left t e a b = omega (arith, ints, e, a, b)

    wire_row : (w : WireAt x y) → IsBottomBranch Met other kit wire g w.shape → (y +ℤ wire.space ≡ g.write_y) ⊎ (y +ℤ wire.space ≡ g.column_y) → ⊥
    wire_row w c which =
        let low = w.holds.low in
        let high = w.holds.high in
        let bl = c.drawn.low in
        let bh = c.drawn.high in
        let sp = m.laid.sizes.space.from in
        let ls = l.sense in
        let lc = l.channel in
        let over = column_high other kit wire many g m in
        elim which [
          | inl e ↦ elim c.kind [
            | inl logic ↦ let p = logic.1 in omega (arith, ints, e, high, bh, p)
            | inr slice ↦ let p = slice.0 in omega (arith, ints, e, low, bl, p, ls, lc, sp)
          ]
          | inr e ↦ elim c.kind [
            | inl logic ↦ let p = logic.1 in omega (arith, ints, e, high, bh, p, over)
            | inr slice ↦ let p = slice.1 in omega (arith, ints, e, high, bh, p)
          ]
        ]

  -- a box at a zone above that line doesn't reach below it
  no_row : (line x y : ℤ) → HasCell box x y → ((line -ℤ wire.space) +ℤ wire.space ≡ g.write_y) ⊎ ((line -ℤ wire.space) +ℤ wire.space ≡ g.column_y) → line ≤ℤ z.low → (y +ℤ wire.space) <ℤ line → ⊥
  no_row line x y inside which over under = gap_row x (line -ℤ wire.space) before which (covered x (line -ℤ wire.space) (cell_under wire reach z near d box at line x y inside over under)) where
    before : x <ℤ trunk_x other kit wire g
    before = by_lt_z x (trunk_x other kit wire g) (λ lt. lt) (λ ge. absurd (no_trunk x y inside ge))

  -- a branch that covers a cell of the box leads up from the zone's row
  attached : (x y : ℤ) → HasCell box x y → (b : Shape) (c : IsBottomBranch Met other kit wire g b) → HasCell b.rect x y → z.high ≤ℤ c.rect.y2
  attached x y inside b c has =
      let low = has.low in
      let high = has.high in
      let bl = c.drawn.low in
      let bh = c.drawn.high in
      let over = column_high other kit wire many g m in
      let ls = l.sense in
      let lc = l.channel in
      elim c.kind [
        | inl logic ↦
            let e = logic.0 in
            let p = logic.1 in
            elim kind [
              | inl upper ↦ absurd (no_row g.column_y x y inside (inr (under_columns other kit wire many g m)) upper.2 (omega (arith, ints, high, bh, p, over)))
              | inr rest ↦ elim rest [
                | inl slices ↦ absurd (no_row g.write_y x y inside (inl (under_slices other kit wire many g m)) slices.2 (omega (arith, ints, high, bh, p)))
                | inr row ↦ let q = row.1 in omega (arith, ints, e, q)
              ]
            ]
        | inr slice ↦
            let e = slice.0 in
            let p = slice.1 in
            elim kind [
              | inl upper ↦ absurd (no_row g.column_y x y inside (inr (under_columns other kit wire many g m)) upper.2 (omega (arith, ints, high, bh, p)))
              | inr rest ↦ elim rest [
                | inl slices ↦ let q = slices.3 in omega (arith, ints, e, q)
                | inr row ↦
                    let q = row.1 in
                    let i = inside.high in
                    let s = at.stands.high in
                    let felt = at.felt in
                    let far = n.logic in
                    absurd (omega (arith, ints, low, bl, e, q, i, s, felt, far, ls, lc))
              ]
            ]
      ]

  branch_kept : box.y2 ≤ℤ (z.high +ℤ (wire.space +ℤ wire.width)) → (x y : ℤ) → HasCell box x y → (b : Shape) (c : IsBottomBranch Met other kit wire g b) → HasCell b.rect x y → IsWireCell Flat plan kit bits wire tracks f by to flat metal (x +ℤ dx) (y +ℤ dy)
  branch_kept up x y inside b c has =
      let top = attached x y inside b c has in
      let close = branch_near wire reach z near (zone_of other kit g c.leaf c.pin.place) d box c.rect b.rect x y at (placed_lies Met 1 other kit wire many g m c.leaf c.rect c.pin) top (there.wide c.leaf c.rect c.pin) c.drawn.left c.drawn.right c.drawn.low inside has in
      let s = moves c.leaf c.pin.place c.pin.has c.pin.stands close in
      let r = moved_rect dx dy c.rect in
      let t = here.from s.leaf r.0 (placed_moves Met 1 plan other kit bits f g dx dy c.leaf c.rect c.pin s r.0 r.1) in
      record {
        shape = t.0;
        on = t.3.on;
        holds = branch_holds wire z dx dy box c.rect b.rect r.0 t.0.rect x y t.2 up top c.drawn.left c.drawn.right c.drawn.low r.1 t.3.left t.3.right t.3.low t.3.high t.4 inside has;
        is = t.1;
      }

  -- each wire that covers a cell of the box covers it, moved, here
  pub second_kept : box.y2 ≤ℤ (z.high +ℤ (wire.space +ℤ wire.width)) → (x y : ℤ) → HasCell box x y → IsWireCell Flat other kit bits wire many g by from h metal x y → IsWireCell Flat plan kit bits wire tracks f by to flat metal (x +ℤ dx) (y +ℤ dy)
  second_kept up x y inside w = elim (there.to w.shape w.is w.on) [
    | inl trunk ↦ absurd (no_trunk x y inside (behind (trunk_x other kit wire g) w.shape.rect.x1 x trunk w.holds.left))
    | inr c ↦ branch_kept up x y inside w.shape c w.holds
  ] where
    behind : (t left x : ℤ) → t ≤ℤ left → left ≤ℤ x → t ≤ℤ x
    behind t left x a b = omega (arith, ints, a, b)

  -- A row of the box in which a branch covers a cell has branches alone, and is no wider than a wire.

  record IsRowBranch (y : ℤ) (s : Shape) : Type 0 where
    pub is : IsDrawnWire other kit wire many g s
    pub on : s.layer ≡ metal
    pub branch : IsBottomBranch Met other kit wire g s
    pub row : s.rect.y1 ≤ℤ y
    pub row_end : y <ℤ s.rect.y2

  in_row : (s : Shape) (y : ℤ) → IsRowBranch y s → IsInRow other kit wire many g m s y
  in_row s y b = record { before = go s.rect.x2 wire.space (trunk_x other kit wire g) (branch_right s b.branch) m.laid.sizes.space.from; low = b.row; high = b.row_end } where
    go : (x2 s t : ℤ) → (x2 +ℤ s) ≤ℤ t → pos 1 ≤ℤ s → x2 ≤ℤ t
    go x2 s t a k = omega (arith, ints, a, k)

  branch_row : (x y : ℤ) (b : Shape) → IsBottomBranch Met other kit wire g b → HasCell b.rect x y → IsChannelRow other kit wire many g m y
  branch_row x y b c has =
      let low = has.low in
      let high = has.high in
      let bl = c.drawn.low in
      let bh = c.drawn.high in
      let sp = m.laid.sizes.space.from in
      elim c.kind [
        | inl logic ↦ let e = logic.0 in let p = logic.1 in inl (omega (arith, ints, low, bl, e), omega (arith, ints, high, bh, p, sp))
        | inr slice ↦ let e = slice.0 in let p = slice.1 in inr (omega (arith, ints, low, bl, e), omega (arith, ints, high, bh, p, sp))
      ]

  pub row_of_branches : (x y : ℤ) → HasCell box x y → (w : WireAt x y) → box.x2 ≤ℤ (box.x1 +ℤ wire.width)
  row_of_branches x y inside w = row_narrow wire.space wire.width box (IsRowBranch y) m.laid.sizes.space.from wide apart all where
    at_cell : (u : ℤ) → HasCell box u y → (v : WireAt u y) → IsRowBranch y v.shape
    at_cell u cell v = elim (there.to v.shape v.is v.on) [
      | inl trunk ↦ absurd (no_trunk u y cell (behind (trunk_x other kit wire g) v.shape.rect.x1 u trunk v.holds.left))
      | inr c ↦ record { is = v.is; on = v.on; branch = c; row = v.holds.low; row_end = v.holds.high }
    ] where
      behind : (t left x : ℤ) → t ≤ℤ left → left ≤ℤ x → t ≤ℤ x
      behind t left x a b = omega (arith, ints, a, b)

    wide : (s : Shape) → IsRowBranch y s → s.rect.x2 ≤ℤ (s.rect.x1 +ℤ wire.width)
    wide s b = let c = b.branch in let p = c.drawn.left in let q = c.drawn.right in omega (arith, ints, p, q)

    apart : (s u : Shape) → IsRowBranch y s → IsRowBranch y u → AreOneOrApart wire.space s.rect u.rect
    apart s u a b = second_apart other kit wire many g m s u y a.on b.on a.is b.is (in_row s y a) (in_row u y b)

    all : (u : ℤ) → box.x1 ≤ℤ u → u <ℤ box.x2 → (s : Shape) × IsRowBranch y s × (s.rect.x1 ≤ℤ u) × (u <ℤ s.rect.x2)
    all u left right =
        let cell : HasCell box u y = record { left = left; right = right; low = inside.low; high = inside.high } in
        elim (of_cell u y cell) [
          | inl leaf ↦ absurd (zone_off_channels other kit wire many g m _ u y leaf.kind leaf.within (branch_row x y w.shape (at_cell x inside w).branch w.holds))
          | inr v ↦ (v.shape, at_cell u cell v, v.holds.left, v.holds.right)
        ]
