-- What covers a cell on the fourth metal: leaf instances with their outputs, rails, or branches.
use Rattle.std.proofs.Common.{◌≡◌, ◌⊎◌, inl, inr, ◌∙◌, ℕ, ℤ, pos, ◌+ℤ◌, ◌≤ℤ◌, ◌<ℤ◌, List, arith}
use Rattle.std.specs.Prelude.{slice_index}
use Rattle.std.proofs.lemmas.Int.{ints}
use Rattle.or_geom.specs.declared.shape.Rect.{Rect}
use Rattle.or_geom.specs.declared.shape.Shape.{Shape}
use Rattle.or_geom.specs.Covered.{HasCell, HasCellInSome}
use Rattle.shape_bins.specs.Layers.{rects_on}
use Rattle.cell_roles.specs.declared.role.Role.{Role}
use Rattle.cell_roles.specs.declared.role.Role.TheVariants.{Inv}
use Rattle.tech_rules.specs.declared.tech.Wire.{Wire}
use Rattle.sram_netlist.specs.Organization.{Organization}
use Rattle.sram_netlist.specs.Netlist.{role}
use Rattle.sram_netlist.specs.BitCells.{BitCells}
use Rattle.macro_layout.specs.LayoutKit.{LayoutKit}
use Rattle.macro_layout.specs.Places.{Floorplan, bank_x}
use Rattle.macro_layout.specs.Floorplan.{Tracks}
use Rattle.good_places.specs.Leaves.{Zone, zone_of, LiesNear}
use Rattle.leaf_shapes.specs.Outline.{IsWireLayer}
use Rattle.good_wires.specs.Drawn.{IsDrawnMemory, IsDrawnWire}
use Rattle.good_wires.specs.Kept.{HasDrawnShapes}
use Rattle.good_wires.specs.Tops.{IsRailWireAt, IsTopBranch, IsOutputAt, HasTopWires}
use Rattle.good_wires.proofs.LevelLaws.{Levels, levels}
use Rattle.good_wires.proofs.ClearLaws.{ZoneKind, IsBankZone, zone_kind, write_high, column_high}
use Rattle.upright_covers.proofs.BoxLaws.{IsCellIn, cell_kind}
use Rattle.upright_covers.proofs.AtLaws.{placed_lies}
use Rattle.upright_covers.proofs.ApartLaws.{IsUnderRow}
use Rattle.upright_covers.proofs.ChannelRowLaws.{IsLogicTop, IsChannelRow, logic_top, zone_off_channels}
use Rattle.upright_covers.proofs.GapLaws.{IsGapColumn, no_bank, no_rail}

output_within : (wire : Wire) (pz : Zone) (edge : ℤ) (rect b : Rect) (x y : ℤ) → LiesNear (pos 0) pz rect → pz.low ≤ℤ edge → rect.x2 ≡ rect.x1 +ℤ wire.width → b.x1 ≡ rect.x1 → b.x2 ≡ rect.x1 +ℤ wire.width → b.y1 ≡ edge → b.y2 ≡ rect.y1 → HasCell b x y → IsCellIn pz x y
output_within wire pz edge rect b x y pin low wide dl dr db dh has =
    let tall = rect.tall in
    record {
      left = let p = pin.left in let q = has.left in omega (arith, ints, p, q, dl);
      right = let p = pin.right in let q = has.right in omega (arith, ints, p, q, dr, wide);
      low = let q = has.low in omega (arith, ints, q, db, low);
      high = let p = pin.high in let q = has.high in omega (arith, ints, p, q, dh, tall);
    }

pub under_pin : (y e : ℤ) (n : ℕ) → y ≡ e +ℤ pos n → e ≤ℤ y
under_pin y e n is = omega (arith, ints, is)

module _ (Met Out : Role → ℕ → Type 0) (drop : Role → ℕ) (Flat : List ℕ → Shape → Type 0) (other : Organization) (kit : LayoutKit) (bits : BitCells) (wire : Wire) (many : Tracks) (g : Floorplan) (by : ℤ) (from : List Shape) (h : HasDrawnShapes Flat other kit bits wire many g by from)
    (there : HasTopWires Met Out drop other kit wire many g) (own : IsWireLayer wire (slice_index wire.metals 3)) where
  abbrev metal : ℕ
  metal = slice_index wire.metals 3

  abbrev m : IsDrawnMemory other kit wire many g
  m = h.drawn

  l : Levels other kit wire g
  l = levels other kit wire many g h.drawn.laid.sizes h.drawn.stands

  -- a cell in the zone of an instance
  pub record IsInstanceCell (x y : ℤ) : Type 0 where
    pub zone : Zone
    pub within : IsCellIn zone x y
    pub stands : ZoneKind other kit wire many g m zone

  -- What covers a cell: what is drawn in an instance's zone, a rail, or a branch
  pub record IsBranchCell (x y : ℤ) : Type 0 where
    pub shape : Shape
    pub branch : IsTopBranch Met drop other kit wire g shape
    pub is : IsDrawnWire other kit wire many g shape
    pub on : shape.layer ≡ metal
    pub holds : HasCell shape.rect x y

  pub record IsRailCell (x y : ℤ) : Type 0 where
    pub shape : Shape
    pub rail : IsRailWireAt other kit wire g shape
    pub holds : HasCell shape.rect x y

  abbrev pub Kind : ℤ → ℤ → Type 0
  Kind x y = IsInstanceCell x y ⊎ (IsRailCell x y ⊎ IsBranchCell x y)

  pub output_cell : (x y : ℤ) (b : Shape) (c : IsOutputAt Out drop other kit wire g b) → HasCell b.rect x y → IsCellIn (zone_of other kit g c.leaf c.pin.place) x y
  output_cell x y b c has = output_within wire (zone_of other kit g c.leaf c.pin.place) c.edge c.rect b.rect x y (placed_lies Out 3 other kit wire many g m c.leaf c.rect c.pin) c.zone (there.wide_out c.leaf c.rect c.pin) c.drawn.left c.drawn.right c.drawn.low c.drawn.high has

  pub kind_of : (x y : ℤ) → HasCellInSome (rects_on metal from) x y → Kind x y
  kind_of x y has = elim (cell_kind Flat other kit bits wire many g by from h metal x y own has) [
    | inl leaf ↦ inl (record { zone = zone_of other kit g leaf.of.leaf leaf.of.place; within = leaf.within; stands = leaf.kind })
    | inr w ↦ elim (there.to w.shape w.is w.on) [
      | inl rail ↦ inr (inl (record { shape = w.shape; rail = rail; holds = w.holds }))
      | inr rest ↦ elim rest [
        | inl branch ↦ inr (inr (record { shape = w.shape; branch = branch; is = w.is; on = w.on; holds = w.holds }))
        | inr c ↦ inl (record { zone = zone_of other kit g c.leaf c.pin.place; within = output_cell x y w.shape c w.holds; stands = zone_kind other kit wire many g m c.leaf c.pin.place c.pin.has c.pin.stands })
      ]
    ]
  ]

  -- the row before the lowest track of the channel above the logic row, and that of the channel above the slices
  pub low_row : (x y : ℤ) → IsLogicTop other kit wire many g m y → Kind x y → ⊥
  low_row x y e k =
      let w = write_high other kit wire many g m in
      let ls = l.sense in
      let lc = l.channel in
      elim k [
        | inl cell ↦ zone_off_channels other kit wire many g m cell.zone x y cell.stands cell.within (logic_top other kit wire many g m y e)
        | inr rest ↦ elim rest [
          | inl rail ↦ let p = rail.rail.low in let q = rail.holds.low in omega (arith, ints, e, p, q)
          | inr b ↦
              let q = b.holds.low in
              let bl = b.branch.drawn.low in
              elim b.branch.kind [
                | inl write ↦ let p = write.1 in omega (arith, ints, e, q, bl, p)
                | inr column ↦ let p = column.1 in omega (arith, ints, e, q, bl, p, w, ls, lc)
              ]
        ]
      ]

  pub branch_over : (b : Shape) (c : IsTopBranch Met drop other kit wire g b) → pos (kit.height Inv) ≤ℤ c.edge
  branch_over b c =
      let w = write_high other kit wire many g m in
      let u = column_high other kit wire many g m in
      let sp = m.laid.sizes.space.from in
      elim c.kind [
        | inl write ↦ let e = write.0 in omega (arith, ints, e, w, sp)
        | inr column ↦ let e = column.0 in omega (arith, ints, e, w, u, sp)
      ]

  -- nor branches, which stand in the columns of their pins' zones
  no_branch : (bank : ℕ) (x y : ℤ) → IsGapColumn other kit wire many g m bank x → IsBranchCell x y → ⊥
  no_branch bank x y gap b =
      let c = b.branch in
      let pz = zone_of other kit g c.leaf c.pin.place in
      go c.rect pz (placed_lies Met 3 other kit wire many g m c.leaf c.rect c.pin) (zone_kind other kit wire many g m c.leaf c.pin.place c.pin.has c.pin.stands) (under_pin c.rect.y1 c.edge (drop (role other c.leaf)) c.at) (branch_over b.shape c) (there.wide c.leaf c.rect c.pin) c.drawn.left c.drawn.right b.holds
    where
      go : (rect : Rect) (pz : Zone) → LiesNear (pos 0) pz rect → ZoneKind other kit wire many g m pz → b.branch.edge ≤ℤ rect.y1 → pos (kit.height Inv) ≤ℤ b.branch.edge → rect.x2 ≡ rect.x1 +ℤ wire.width → b.shape.rect.x1 ≡ rect.x1 → b.shape.rect.x2 ≡ rect.x1 +ℤ wire.width → HasCell b.shape.rect x y → ⊥
      go rect pz pin k under over wide dl dr has =
          let left : pz.left ≤ℤ x = let p = pin.left in let q = has.left in omega (arith, ints, p, q, dl) in
          let right : x <ℤ pz.right = let p = pin.right in let q = has.right in omega (arith, ints, p, q, dr, wide) in
          elim k [
            | inl upper ↦ no_bank other kit wire many g m bank upper.0 x pz.left pz.right gap upper.1.left upper.1.right left right
            | inr rest ↦ elim rest [
              | inl slices ↦ no_bank other kit wire many g m bank slices.0 x pz.left pz.right gap slices.1.left slices.1.right left right
              | inr logic ↦ let p = pin.high in let q = logic.1 in let tall = rect.tall in omega (arith, ints, p, q, tall, under, over)
            ]
          ]

  -- nothing stands there over the logic row
  pub gap_column : (bank : ℕ) (x y : ℤ) → IsGapColumn other kit wire many g m bank x → pos (kit.height Inv) ≤ℤ y → Kind x y → ⊥
  gap_column bank x y gap over k = elim k [
    | inl cell ↦ elim cell.stands [
      | inl upper ↦ no_bank other kit wire many g m bank upper.0 x cell.zone.left cell.zone.right gap upper.1.left upper.1.right cell.within.left cell.within.right
      | inr rest ↦ elim rest [
        | inl slices ↦ no_bank other kit wire many g m bank slices.0 x cell.zone.left cell.zone.right gap slices.1.left slices.1.right cell.within.left cell.within.right
        | inr logic ↦ let p = logic.1 in let q = cell.within.high in omega (arith, ints, p, q, over)
      ]
    ]
    | inr rest ↦ elim rest [
      | inl rail ↦ no_rail other kit wire many g m bank rail.rail.bank x rail.shape.rect.x1 rail.shape.rect.x2 gap.behind_rails gap.before_rails rail.rail.from rail.rail.to rail.holds.left rail.holds.right
      | inr b ↦ no_branch bank x y gap b
    ]
  ]

  -- A branch that covers a cell of a row, which is one of a channel

  pub branch_row : (x y : ℤ) → IsBranchCell x y → IsChannelRow other kit wire many g m y
  branch_row x y b =
      let low = b.holds.low in
      let high = b.holds.high in
      let bl = b.branch.drawn.low in
      let bh = b.branch.drawn.high in
      let sp = m.laid.sizes.space.from in
      elim b.branch.kind [
        | inl write ↦ let e = write.0 in let p = write.1 in inl (omega (arith, ints, low, bl, p, sp), omega (arith, ints, high, bh, e))
        | inr column ↦ let e = column.0 in let p = column.1 in inr (omega (arith, ints, low, bl, p, sp), omega (arith, ints, high, bh, e))
      ]

  pub record IsRowBranch (y : ℤ) (s : Shape) : Type 0 where
    pub is : IsDrawnWire other kit wire many g s
    pub on : s.layer ≡ metal
    pub under : IsUnderRow other kit wire many g m s y
    pub wide : s.rect.x2 ≡ s.rect.x1 +ℤ wire.width

  pub row_branch : (x y : ℤ) (b : IsBranchCell x y) → IsRowBranch y b.shape
  row_branch x y b =
      let c = b.branch in
      record { is = b.is; on = b.on; wide = wide_of b.shape.rect.x1 b.shape.rect.x2 c.rect.x1 c.drawn.left c.drawn.right; under = by_zone (zone_kind other kit wire many g m c.leaf c.pin.place c.pin.has c.pin.stands) }
    where
      pin : LiesNear (pos 0) (zone_of other kit g b.branch.leaf b.branch.pin.place) b.branch.rect
      pin = placed_lies Met 3 other kit wire many g m b.branch.leaf b.branch.rect b.branch.pin

      wide_of : (x1 x2 r : ℤ) → x1 ≡ r → x2 ≡ r +ℤ wire.width → x2 ≡ x1 +ℤ wire.width
      wide_of x1 x2 r p q = omega (arith, ints, p, q)

      ends : (b.shape.rect.y2 ≡ g.write_y) ⊎ (b.shape.rect.y2 ≡ g.column_y)
      ends = elim b.branch.kind [ inl write ↦ inl (b.branch.drawn.high ∙ write.0) | inr column ↦ inr (b.branch.drawn.high ∙ column.0) ]

      in_bank : (n : ℕ) → IsBankZone other kit wire many g m n (zone_of other kit g b.branch.leaf b.branch.pin.place) → IsUnderRow other kit wire many g m b.shape y
      in_bank n z = record {
        ends = ends;
        low = b.holds.low;
        high = b.holds.high;
        bank = n;
        from = from_left (bank_x g n g.row_x) (zone_of other kit g b.branch.leaf b.branch.pin.place).left b.branch.rect.x1 b.shape.rect.x1 z.left pin.left b.branch.drawn.left;
        to = to_right (bank_x g n g.bank_width) (zone_of other kit g b.branch.leaf b.branch.pin.place).right b.branch.rect.x1 b.branch.rect.x2 b.shape.rect.x2 z.right pin.right b.branch.drawn.right (there.wide b.branch.leaf b.branch.rect b.branch.pin);
      } where
        from_left : (r l x b : ℤ) → r ≤ℤ l → l ≤ℤ (x +ℤ pos 0) → b ≡ x → r ≤ℤ b
        from_left r l x b p q e = omega (arith, ints, p, q, e)

        to_right : (r z x1 x2 b : ℤ) → z ≤ℤ r → x2 ≤ℤ (z +ℤ pos 0) → b ≡ x1 +ℤ wire.width → x2 ≡ x1 +ℤ wire.width → b ≤ℤ r
        to_right r z x1 x2 b p q e k = omega (arith, ints, p, q, e, k)

      not_logic : (rect : Rect) (top edge : ℤ) → top ≤ℤ pos (kit.height Inv) → rect.y2 ≤ℤ (top +ℤ pos 0) → edge ≤ℤ rect.y1 → pos (kit.height Inv) ≤ℤ edge → ⊥
      not_logic rect top edge a c e k = let tall = rect.tall in omega (arith, ints, a, c, e, k, tall)

      by_zone : ZoneKind other kit wire many g m (zone_of other kit g b.branch.leaf b.branch.pin.place) → IsUnderRow other kit wire many g m b.shape y
      by_zone (inl upper) = in_bank upper.0 upper.1
      by_zone (inr (inl slices)) = in_bank slices.0 slices.1
      by_zone (inr (inr logic)) = absurd (not_logic b.branch.rect (zone_of other kit g b.branch.leaf b.branch.pin.place).high b.branch.edge logic.1 pin.high (under_pin b.branch.rect.y1 b.branch.edge (drop (role other b.branch.leaf)) b.branch.at) (branch_over b.shape b.branch))
