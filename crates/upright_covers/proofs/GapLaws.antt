-- The columns of cells between a bank's rails and its rows, and those behind its end.
use Rattle.std.proofs.Common.{◌≡◌, ◌⊎◌, inl, inr, ℕ, ◌*◌, ℤ, pos, ◌+ℤ◌, ◌-ℤ◌, ◌*ℤ◌, ◌≤ℤ◌, ◌<ℤ◌, ap, arith}
use Rattle.std.specs.Int.{int_max}
use Rattle.std.proofs.lemmas.Bool.{cases_lt}
use Rattle.std.proofs.lemmas.Int.{ints, clamps, by_lt_z}
use Rattle.or_geom.specs.declared.shape.Rect.{Rect}
use Rattle.or_geom.specs.Covered.{HasCell}
use Rattle.tech_rules.specs.declared.tech.Wire.{Wire}
use Rattle.wire_drawing.specs.Drawing.{pitch}
use Rattle.sram_netlist.specs.Organization.{Organization, columns_of}
use Rattle.macro_layout.specs.LayoutKit.{LayoutKit}
use Rattle.macro_layout.specs.Places.{Floorplan, bank_x, columns_x, bit_width}
use Rattle.macro_layout.specs.Floorplan.{Tracks}
use Rattle.good_places.specs.Leaves.{Zone}
use Rattle.good_wires.specs.Drawn.{IsDrawnMemory}
use Rattle.good_wires.proofs.LevelLaws.{Sides, sides}
use Rattle.good_wires.proofs.ClearLaws.{IsBankZone, banks_left}
use Rattle.upright_covers.proofs.AtLaws.{IsBoxAt}

module _ (plan : Organization) (kit : LayoutKit) (wire : Wire) (tracks : Tracks) (f : Floorplan) (m : IsDrawnMemory plan kit wire tracks f) where
  s_of : Sides plan kit wire f
  s_of = sides plan kit wire tracks f m.laid.sizes m.stands

  abbrev offset : ℕ → ℤ
  offset b = pos b *ℤ f.bank_width

  pub row_end : f.row_x ≤ℤ f.bank_width
  row_end = go f.row_x (columns_x plan kit f) f.bank_width (columns_of plan * bit_width kit) s_of.columns s_of.bank where
    go : (row col bank : ℤ) (n : ℕ) → row ≤ℤ col → bank ≡ col +ℤ pos n → row ≤ℤ bank
    go row col bank n a e = omega (arith, ints, a, e)

  -- a column of cells between the rails and the rows of a bank, or behind its end, before the rails of the next
  pub record IsGapColumn (bank : ℕ) (x : ℤ) : Type 0 where
    pub behind_rails : bank_x f bank f.row_x ≤ℤ (x +ℤ wire.space)
    pub before_rails : x <ℤ (bank_x f bank f.bank_width +ℤ pitch wire)
    pub off_rows : (x <ℤ bank_x f bank f.row_x) ⊎ (bank_x f bank f.bank_width ≤ℤ x)

  -- no rows stand there
  pub no_bank : (bank j : ℕ) (x left right : ℤ) → IsGapColumn bank x → bank_x f j f.row_x ≤ℤ left → right ≤ℤ bank_x f j f.bank_width → left ≤ℤ x → x <ℤ right → ⊥
  no_bank bank j x left right c from to le lt = elim (cases_lt bank j) [
    | inl before ↦ go1 x left (offset bank) (offset j) f.row_x f.bank_width wire.width wire.space c.before_rails from le (banks_left plan kit wire tracks f m bank j before) s_of.row
    | inr ge ↦ elim (cases_lt j bank) [
      | inl after ↦ go2 x right (offset bank) (offset j) f.row_x f.bank_width wire.width wire.space c.behind_rails to lt (banks_left plan kit wire tracks f m j bank after) s_of.row m.laid.sizes.width.from
      | inr le2 ↦
          let e : offset j ≡ offset bank = ap (λ (k : ℕ). pos k *ℤ f.bank_width) (omega (arith, ge, le2)) in
          elim c.off_rows [
            | inl below ↦ go3 x left (offset bank) (offset j) f.row_x e below from le
            | inr behind ↦ go4 x right (offset bank) (offset j) f.bank_width e behind to lt
          ]
    ]
  ] where
    go1 : (x left q v row bank w s : ℤ) → x <ℤ ((bank +ℤ q) +ℤ (w +ℤ s)) → (row +ℤ v) ≤ℤ left → left ≤ℤ x → (q +ℤ bank) ≤ℤ v → (w +ℤ s) ≤ℤ row → ⊥
    go1 x left q v row bank w s a b c k t = omega (arith, ints, a, b, c, k, t)

    go2 : (x right q v row bank w s : ℤ) → (row +ℤ q) ≤ℤ (x +ℤ s) → right ≤ℤ (bank +ℤ v) → x <ℤ right → (v +ℤ bank) ≤ℤ q → (w +ℤ s) ≤ℤ row → pos 1 ≤ℤ w → ⊥
    go2 x right q v row bank w s a b c k t u = omega (arith, ints, a, b, c, k, t, u)

    go3 : (x left q v row : ℤ) → v ≡ q → x <ℤ (row +ℤ q) → (row +ℤ v) ≤ℤ left → left ≤ℤ x → ⊥
    go3 x left q v row e a b c = omega (arith, ints, e, a, b, c)

    go4 : (x right q v bank : ℤ) → v ≡ q → (bank +ℤ q) ≤ℤ x → right ≤ℤ (bank +ℤ v) → x <ℤ right → ⊥
    go4 x right q v bank e a b c = omega (arith, ints, e, a, b, c)

  -- nor rails
  pub no_rail : (bank j : ℕ) (x left right : ℤ) → bank_x f bank f.row_x ≤ℤ (x +ℤ wire.space) → x <ℤ (bank_x f bank f.bank_width +ℤ pitch wire) → bank_x f j (pitch wire) ≤ℤ left → (right +ℤ wire.space) ≤ℤ bank_x f j f.row_x → left ≤ℤ x → x <ℤ right → ⊥
  no_rail bank j x left right behind before from to le lt = elim (cases_lt bank j) [
    | inl earlier ↦ go1 x left (offset bank) (offset j) f.bank_width (pitch wire) before from le (banks_left plan kit wire tracks f m bank j earlier)
    | inr ge ↦ elim (cases_lt j bank) [
      | inl after ↦ go2 x right (offset bank) (offset j) f.row_x f.bank_width wire.space behind to lt (banks_left plan kit wire tracks f m j bank after) row_end s_of.wide
      | inr le2 ↦
          let e : offset j ≡ offset bank = ap (λ (k : ℕ). pos k *ℤ f.bank_width) (omega (arith, ge, le2)) in
          go3 x right (offset bank) (offset j) f.row_x wire.space e behind to lt
    ]
  ] where
    go1 : (x left q v bank p : ℤ) → x <ℤ ((bank +ℤ q) +ℤ p) → (p +ℤ v) ≤ℤ left → left ≤ℤ x → (q +ℤ bank) ≤ℤ v → ⊥
    go1 x left q v bank p a b c k = omega (arith, ints, a, b, c, k)

    go2 : (x right q v row bank s : ℤ) → (row +ℤ q) ≤ℤ (x +ℤ s) → (right +ℤ s) ≤ℤ (row +ℤ v) → x <ℤ right → (v +ℤ bank) ≤ℤ q → row ≤ℤ bank → pos 0 ≤ℤ bank → ⊥
    go2 x right q v row bank s a b c k t u = omega (arith, ints, a, b, c, k, t, u)

    go3 : (x right q v row s : ℤ) → v ≡ q → (row +ℤ q) ≤ℤ (x +ℤ s) → (right +ℤ s) ≤ℤ (row +ℤ v) → x <ℤ right → ⊥
    go3 x right q v row s e a b c = omega (arith, ints, e, a, b, c)

  -- A covered box at a bank's zone, where nothing covers such columns so high, stands between them.

  module _ (bank : ℕ) (z near : Zone) (in_bank : IsBankZone plan kit wire tracks f m bank z) (above : f.write_y ≤ℤ z.low) (reach d : ℤ) (box : Rect) (at : IsBoxAt wire reach z near d box) (Covers : ℤ → ℤ → Type 0) (covered : (x y : ℤ) → HasCell box x y → Covers x y)
      (bare : (x y : ℤ) → IsGapColumn bank x → f.write_y ≤ℤ (y +ℤ wire.space) → Covers x y → ⊥) where
    -- some row of the box stands so high
    over_row : (y : ℤ) × (f.write_y ≤ℤ (y +ℤ wire.space)) × (box.y1 ≤ℤ y) × (y <ℤ box.y2)
    over_row =
        let low = at.low in
        let tall = box.tall in
        (int_max box.y1 (f.write_y -ℤ wire.space), omega (arith, ints, clamps), omega (arith, ints, clamps), omega (arith, ints, clamps, low, tall, above))

    pub box_left : bank_x f bank f.row_x ≤ℤ (box.x1 +ℤ wire.space)
    box_left = by_lt_z (box.x1 +ℤ wire.space) (bank_x f bank f.row_x) (λ lt. absurd (out lt)) (λ ge. ge) where
      out : (box.x1 +ℤ wire.space) <ℤ bank_x f bank f.row_x → ⊥
      out lt =
          let x = bank_x f bank f.row_x -ℤ wire.space in
          bare x over_row.0 (record { behind_rails = same (bank_x f bank f.row_x) wire.space; before_rails = under f.row_x f.bank_width (offset bank) wire.space wire.width row_end m.laid.sizes.space.from m.laid.sizes.width.from; off_rows = inl (less (bank_x f bank f.row_x) wire.space m.laid.sizes.space.from) }) over_row.1
          (covered x over_row.0 (record { left = enters box.x1 (bank_x f bank f.row_x) wire.space lt; right = ends z.left box.x2 (bank_x f bank f.row_x) wire.space at.left in_bank.left; low = over_row.2; high = over_row.3 }))
        where
          same : (r s : ℤ) → r ≤ℤ ((r -ℤ s) +ℤ s)
          same r s = omega (arith, ints)

          less : (r s : ℤ) → pos 1 ≤ℤ s → (r -ℤ s) <ℤ r
          less r s a = omega (arith, ints, a)

          under : (r b q s w : ℤ) → r ≤ℤ b → pos 1 ≤ℤ s → pos 1 ≤ℤ w → ((r +ℤ q) -ℤ s) <ℤ ((b +ℤ q) +ℤ (w +ℤ s))
          under r b q s w a k u = omega (arith, ints, a, k, u)

          enters : (b r s : ℤ) → (b +ℤ s) <ℤ r → b ≤ℤ (r -ℤ s)
          enters b r s a = omega (arith, ints, a)

          ends : (zl b r s : ℤ) → zl <ℤ (b +ℤ s) → r ≤ℤ zl → (r -ℤ s) <ℤ b
          ends zl b r s a k = omega (arith, ints, a, k)

    pub box_right : box.x2 ≤ℤ (bank_x f bank f.bank_width +ℤ wire.space)
    box_right = by_lt_z (bank_x f bank f.bank_width +ℤ wire.space) box.x2 (λ lt. absurd (out lt)) (λ ge. ge) where
      out : (bank_x f bank f.bank_width +ℤ wire.space) <ℤ box.x2 → ⊥
      out lt =
          let x = (bank_x f bank f.bank_width +ℤ wire.space) -ℤ pos 1 in
          bare x over_row.0 (record { behind_rails = after f.row_x f.bank_width (offset bank) wire.space row_end m.laid.sizes.space.from; before_rails = under (bank_x f bank f.bank_width) wire.space wire.width m.laid.sizes.width.from; off_rows = inr (more (bank_x f bank f.bank_width) wire.space m.laid.sizes.space.from) }) over_row.1
          (covered x over_row.0 (record { left = enters box.x1 z.right (bank_x f bank f.bank_width) wire.space at.right in_bank.right; right = ends box.x2 (bank_x f bank f.bank_width) wire.space lt; low = over_row.2; high = over_row.3 }))
        where
          after : (r b q s : ℤ) → r ≤ℤ b → pos 1 ≤ℤ s → (r +ℤ q) ≤ℤ ((((b +ℤ q) +ℤ s) -ℤ pos 1) +ℤ s)
          after r b q s a k = omega (arith, ints, a, k)

          under : (b s w : ℤ) → pos 1 ≤ℤ w → ((b +ℤ s) -ℤ pos 1) <ℤ (b +ℤ (w +ℤ s))
          under b s w a = omega (arith, ints, a)

          more : (b s : ℤ) → pos 1 ≤ℤ s → b ≤ℤ ((b +ℤ s) -ℤ pos 1)
          more b s a = omega (arith, ints, a)

          enters : (x zr b s : ℤ) → x <ℤ (zr +ℤ s) → zr ≤ℤ b → x ≤ℤ ((b +ℤ s) -ℤ pos 1)
          enters x zr b s a k = omega (arith, ints, a, k)

          ends : (x b s : ℤ) → (b +ℤ s) <ℤ x → ((b +ℤ s) -ℤ pos 1) <ℤ x
          ends x b s a = omega (arith, ints, a)
