-- Wires that are not near an instance of a bank: those of other heights, rails, supply trunks, and wires of other banks.
use Rattle.std.proofs.Common.{◌≡◌, inl, inr, ℕ, ◌*◌, ◌<◌, ℤ, pos, ◌+ℤ◌, ◌-ℤ◌, ◌*ℤ◌, ◌≤ℤ◌, ◌<ℤ◌, List, ap, arith}
use Rattle.std.specs.Int.{int_max}
use Rattle.std.proofs.lemmas.Bool.{cases_lt}
use Rattle.std.proofs.lemmas.Int.{ints, clamps}
use Rattle.or_geom.specs.declared.shape.Rect.{Rect}
use Rattle.cell_roles.specs.declared.role.Role.TheVariants.{Inv, Precharge, Write}
use Rattle.tech_rules.specs.declared.tech.Connect.{Connect}
use Rattle.wire_drawing.specs.Drawing.{pitch}
use Rattle.sram_netlist.specs.Organization.{banks_of, columns_of}
use Rattle.sram_netlist.specs.InstanceList.{logic_cells}
use Rattle.macro_layout.specs.Places.{Floorplan, bank_x, bit_width, drive_width, total_width}
use Rattle.macro_layout.specs.Floorplan.{upper_y, column_role}
use Rattle.macro_layout.specs.Wires.{trunk_x, row_y}
use Rattle.good_places.specs.Leaves.{Zone}
use Rattle.good_places.proofs.LaidLaws.{Numbers, numbers, written_all}
use Rattle.good_places.proofs.NumberLaws.{banks_before, times_low}
use Rattle.good_wires.proofs.LevelLaws.{Levels, levels, Sides, sides, IsRailAt, pitch_low}
use Rattle.kit_nets.specs.StatedParts.{Source}
use Rattle.small_wires.specs.Seen.{IsNearZone}
use Rattle.seen_pairs.specs.Window.{IsSeenSource}

module _ (connections : List Connect) (s : Source) (by reach : ℤ) (is : IsSeenSource connections s by reach) where
  abbrev f : Floorplan
  f = s.floorplan

  abbrev S : ℤ
  S = s.wire.space

  abbrev W : ℤ
  W = s.wire.width

  pub lv : Levels s.plan s.kit s.wire s.floorplan
  lv = levels s.plan s.kit s.wire s.tracks s.floorplan is.source.drawn.laid.sizes is.source.drawn.stands

  pub sp : Sides s.plan s.kit s.wire s.floorplan
  sp = sides s.plan s.kit s.wire s.tracks s.floorplan is.source.drawn.laid.sizes is.source.drawn.stands

  pub wide_wire : pos 1 ≤ℤ s.wire.width
  wide_wire = is.source.drawn.laid.sizes.width.from

  pub wide_space : pos 1 ≤ℤ s.wire.space
  wide_space = is.source.drawn.laid.sizes.space.from

  nums : Numbers s.plan s.kit s.floorplan reach
  nums = numbers s.plan s.kit s.wire s.floorplan reach is.source.drawn.laid is.short

  pub logic_level : (pos (s.kit.height Inv) +ℤ s.wire.space) ≤ℤ s.floorplan.write_y
  logic_level = go (pos (s.kit.height Inv)) f.write_y S (pos s.tracks.main *ℤ pitch s.wire) is.source.drawn.stands.write_y (times_low s.tracks.main (pitch s.wire) (pitch_low s.wire is.source.drawn.laid.sizes)) where
    go : (l w sp t : ℤ) → w ≡ l +ℤ (sp +ℤ t) → pos 0 ≤ℤ t → (l +ℤ sp) ≤ℤ w
    go l w sp t e a = omega (arith, ints, e, a)

  pub slices_level : (s.floorplan.write_y +ℤ s.wire.space) ≤ℤ s.floorplan.column_y
  slices_level = let a = lv.sense in let b = lv.channel in let c = lv.column in omega (arith, ints, a, b, c)

  -- bars and joiners below an edge, and above one
  pub corner_level : s.floorplan.column_y ≤ℤ (s.floorplan.array_y -ℤ s.wire.width)
  corner_level = let a = is.source.drawn.stands.array_y in let b = is.source.drawn.pins.cells (column_role s.plan.col_bits) in omega (arith, ints, a, b)

  pub upper_level : s.floorplan.column_y ≤ℤ (upper_y s.kit s.floorplan -ℤ s.wire.width)
  upper_level = let a = lv.array in let b = lv.precharge in let c = is.source.drawn.pins.cells Precharge in omega (arith, ints, a, b, c)

  pub joiner_level : s.floorplan.write_y ≤ℤ (s.floorplan.sense_y -ℤ s.wire.width)
  joiner_level =
      let a = is.source.drawn.stands.sense_y in
      let b = is.source.drawn.pins.cells Write in
      let c = written_all s.plan.write_size (s.kit.height Write) is.written in
      omega (arith, ints, a, b, c)

  pub row_level : (r : ℕ) → s.floorplan.column_y ≤ℤ row_y s.kit s.floorplan r
  row_level r = let a = lv.array in omega (arith, ints, a)

  pub inverter_level : s.wire.width ≤ℤ pos (s.kit.height Inv)
  inverter_level = is.source.drawn.pins.cells Inv

  -- Heights

  pub below_zone : (z : Zone) (t : Rect) → IsNearZone s.wire.space z t → (t.y2 +ℤ s.wire.space) ≤ℤ z.low → ⊥
  below_zone z t n le = let a = n.low in omega (arith, ints, a, le)

  pub above_zone : (z : Zone) (t : Rect) → IsNearZone s.wire.space z t → (z.high +ℤ s.wire.space) ≤ℤ t.y1 → ⊥
  above_zone z t n le = let a = n.high in omega (arith, ints, a, le)

  -- a zone of bank b
  module _ (b : ℕ) (z : Zone) (from : bank_x s.floorplan b s.floorplan.row_x ≤ℤ z.left) (to : z.right ≤ℤ bank_x s.floorplan b s.floorplan.bank_width) where
    pub same_bank : (k : ℕ) (t : Rect) → ((pos k *ℤ s.floorplan.bank_width) +ℤ s.wire.space) ≤ℤ t.x1 → t.x2 ≤ℤ (s.floorplan.bank_width +ℤ (pos k *ℤ s.floorplan.bank_width)) → IsNearZone s.wire.space z t → k ≡ b
    same_bank k t starts ends near = elim (cases_lt k b) [
      | inl lt ↦ absurd (before f.row_x (pos b *ℤ f.bank_width) (pos k *ℤ f.bank_width) f.bank_width z.left t.x2 S W from ends (banks_before k b f.bank_width lt nums.right) sp.row wide_wire near.left)
      | inr ge ↦ elim (cases_lt b k) [
        | inl gt ↦ absurd (behind (pos b *ℤ f.bank_width) (pos k *ℤ f.bank_width) f.bank_width z.right t.x1 S to starts (banks_before b k f.bank_width gt nums.right) near.right)
        | inr le ↦ omega (arith, ge, le)
      ]
    ] where
      before : (r qb qk w l x sp wd : ℤ) → (r +ℤ qb) ≤ℤ l → x ≤ℤ (w +ℤ qk) → (qk +ℤ w) ≤ℤ qb → (wd +ℤ sp) ≤ℤ r → pos 1 ≤ℤ wd → l <ℤ (x +ℤ sp) → ⊥
      before r qb qk w l x sp wd c1 c2 c3 c4 c5 c6 = omega (arith, ints, c1, c2, c3, c4, c5, c6)

      behind : (qb qk w r x sp : ℤ) → r ≤ℤ (w +ℤ qb) → (qk +ℤ sp) ≤ℤ x → (qb +ℤ w) ≤ℤ qk → x <ℤ (r +ℤ sp) → ⊥
      behind qb qk w r x sp c1 c2 c3 c4 = omega (arith, ints, c1, c2, c3, c4)

    rows_in : f.row_x ≤ℤ f.bank_width
    rows_in = go f.row_x f.bank_width (drive_width s.plan s.kit) (columns_of s.plan * bit_width s.kit) sp.bank where
      go : (r w : ℤ) (d n : ℕ) → w ≡ (r +ℤ pos d) +ℤ pos n → r ≤ℤ w
      go r w d n e = omega (arith, ints, e)

    -- rails
    pub not_rail : (k : ℕ) (x : ℤ) (t : Rect) → IsRailAt s.wire s.floorplan k x → x ≤ℤ t.x1 → t.x2 ≤ℤ (x +ℤ s.wire.width) → IsNearZone s.wire.space z t → ⊥
    not_rail k x t rail left right near =
        let e = same_bank k t (starts (pos k *ℤ f.bank_width) W S x t.x1 rail.from left wide_wire) (ends (pos k *ℤ f.bank_width) f.row_x f.bank_width W S x t.x2 rail.to right rows_in wide_space) near in
        out (pos k *ℤ f.bank_width) (pos b *ℤ f.bank_width) f.row_x W S x t.x2 z.left (ap (λ (n : ℕ). pos n *ℤ f.bank_width) e) rail.to right from near.left
      where
        starts : (q w sp x t : ℤ) → ((w +ℤ sp) +ℤ q) ≤ℤ x → x ≤ℤ t → pos 1 ≤ℤ w → (q +ℤ sp) ≤ℤ t
        starts q w sp x t a b c = omega (arith, ints, a, b, c)

        ends : (q r wd w sp x t : ℤ) → ((x +ℤ w) +ℤ sp) ≤ℤ (r +ℤ q) → t ≤ℤ (x +ℤ w) → r ≤ℤ wd → pos 1 ≤ℤ sp → t ≤ℤ (wd +ℤ q)
        ends q r wd w sp x t a b c d = omega (arith, ints, a, b, c, d)

        out : (qk qb r w sp x t l : ℤ) → qk ≡ qb → ((x +ℤ w) +ℤ sp) ≤ℤ (r +ℤ qk) → t ≤ℤ (x +ℤ w) → (r +ℤ qb) ≤ℤ l → l <ℤ (t +ℤ sp) → ⊥
        out qk qb r w sp x t l e a c d n = omega (arith, ints, e, a, c, d, n)

    -- what stands behind all banks
    pub not_behind : b < banks_of s.plan → (t : Rect) → trunk_x s.plan s.kit s.wire s.floorplan ≤ℤ t.x1 → IsNearZone s.wire.space z t → ⊥
    not_behind lt t le near = go z.right f.bank_width (pos b *ℤ f.bank_width) (pos (banks_of s.plan) *ℤ f.bank_width) (f.logic_x +ℤ pos (total_width s.plan s.kit (logic_cells s.plan))) S t.x1 to (banks_before b (banks_of s.plan) f.bank_width lt nums.right) le near.right where
      go : (r w q all l sp x : ℤ) → r ≤ℤ (w +ℤ q) → (q +ℤ w) ≤ℤ all → (int_max all l +ℤ sp) ≤ℤ x → x <ℤ (r +ℤ sp) → ⊥
      go r w q all l sp x a c d n = omega (arith, ints, clamps, a, c, d, n)
