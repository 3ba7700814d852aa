-- A box that the first metal covers near a zone in one memory is covered in another.
use Rattle.std.proofs.Common.{◌≡◌, inl, inr, ◌∙◌, ℕ, ℤ, pos, ◌+ℤ◌, ◌-ℤ◌, ◌*ℤ◌, ◌≤ℤ◌, ◌<ℤ◌, List, refl, sym, ap, subst, arith}
use Rattle.std.specs.Prelude.{slice_index}
use Rattle.std.proofs.lemmas.Bool.{cases_lt}
use Rattle.std.proofs.lemmas.Int.{ints}
use Rattle.or_geom.specs.declared.shape.Rect.{Rect}
use Rattle.or_geom.specs.declared.shape.Shape.{Shape}
use Rattle.or_geom.specs.Covered.{HasCell, HasCellInSome}
use Rattle.shape_bins.specs.Layers.{rects_on, IsCoveredBy}
use Rattle.cell_roles.specs.declared.role.Role.TheVariants.{Inv}
use Rattle.tech_rules.specs.declared.tech.Wire.{Wire}
use Rattle.sram_netlist.specs.Organization.{Organization}
use Rattle.sram_netlist.specs.BitCells.{BitCells}
use Rattle.macro_layout.specs.LayoutKit.{LayoutKit}
use Rattle.macro_layout.specs.Places.{Floorplan, bank_x, columns_x}
use Rattle.macro_layout.specs.Floorplan.{Tracks, column_channel_y}
use Rattle.macro_layout.specs.Wires.{trunk_x, columns_end}
use Rattle.good_places.specs.Leaves.{Zone, ReachesNeighboursOnly}
use Rattle.leaf_shapes.specs.Outline.{IsWireLayer}
use Rattle.good_places.proofs.LaidLaws.{Numbers, numbers}
use Rattle.good_wires.specs.Drawn.{IsDrawnMemory}
use Rattle.good_wires.specs.Kept.{HasDrawnShapes}
use Rattle.good_wires.proofs.LevelLaws.{Levels, levels, Sides, sides}
use Rattle.good_wires.proofs.ClearLaws.{write_high, column_high, banks_left}
use Rattle.supply_bars.specs.Heights.{Storey, LogicRow, Slices, Columns, Height, LogicLow, LogicHigh, WriteLow, WriteHigh, SenseLow, SenseHigh, ColumnLow, ColumnHigh, CellRow, PrechargeLow, PrechargeHigh, part_of, low, bar_begin, HasJoiner, IsBarAlong, IsJoinerAlong, IsAtHeight, trunk_by, is_power, height_y}
use Rattle.supply_bars.proofs.HeightLaws.{on_metal, a_bar, a_joiner}
use Rattle.supply_bars.proofs.PartLaws.{rise_of, tall_of, same_rise, same_bars, LiesInPart, in_part, begins, trunks}
use Rattle.supply_bars.proofs.SideLaws.{IsAlikeLeft, IsAlikeRight}
use Rattle.supply_bars.proofs.PairedLaws.{ArePaired, AreJoinersAlike, channel_end}
use Rattle.upright_covers.proofs.BoxLaws.{IsWireCell, cell_kind}
use Rattle.upright_covers.proofs.AtLaws.{IsBoxAt, cell_over, cell_under}
use Rattle.upright_covers.proofs.ChannelRowLaws.{IsChannelRow, over_logic, under_slices, over_slices, under_columns, logic_top, slice_foot, slice_top, column_foot, zone_off_channels}

-- a cell of a bar or a joiner lies in its part
pub record IsInPart (plan : Organization) (kit : LayoutKit) (f : Floorplan) (part : Storey) (y : ℤ) : Type 0 where
  pub from : low f part ≤ℤ y
  pub to : y <ℤ (low f part +ℤ tall_of plan kit part)

pub in_part_at : (plan : Organization) (kit : LayoutKit) (wire : Wire) (tracks : Tracks) (f : Floorplan) (m : IsDrawnMemory plan kit wire tracks f) (h : Height) (s : Shape) (y : ℤ) → LiesInPart plan kit wire tracks f m h → IsAtHeight plan kit wire f h s → s.rect.y1 ≤ℤ y → y <ℤ s.rect.y2 → IsInPart plan kit f (part_of h) y
in_part_at plan kit wire tracks f m h s y lies at from to = record {
  from = go (low f (part_of h)) (rise_of plan kit wire h) s.rect.y1 lies.from at.low from;
  to = up (low f (part_of h)) (rise_of plan kit wire h) (tall_of plan kit (part_of h)) wire.width s.rect.y2 lies.to at.high to;
} where
  go : (l r y1 : ℤ) → pos 0 ≤ℤ r → y1 ≡ l +ℤ r → y1 ≤ℤ y → l ≤ℤ y
  go l r y1 a e b = omega (arith, ints, a, e, b)

  up : (l r t w y2 : ℤ) → (r +ℤ w) ≤ℤ t → y2 ≡ (l +ℤ r) +ℤ w → y <ℤ y2 → y <ℤ (l +ℤ t)
  up l r t w y2 a e b = omega (arith, ints, a, e, b)

-- no part has a row of a channel
part_off_channels : (plan : Organization) (kit : LayoutKit) (wire : Wire) (tracks : Tracks) (f : Floorplan) (m : IsDrawnMemory plan kit wire tracks f) (part : Storey) (y : ℤ) → IsInPart plan kit f part y → IsChannelRow plan kit wire tracks f m y → ⊥
part_off_channels plan kit wire tracks f m LogicRow y i row =
    let to = i.to in
    let w = write_high plan kit wire tracks f m in
    let l = levels plan kit wire tracks f m.laid.sizes m.stands in
    let ls = l.sense in
    let lc = l.channel in
    let sp = m.laid.sizes.space.from in
    elim row [ inl main ↦ let a = main.0 in omega (arith, ints, to, a) | inr column ↦ let a = column.0 in omega (arith, ints, to, a, w, ls, lc, sp) ]
part_off_channels plan kit wire tracks f m Slices y i row =
    let from = i.from in
    let to : y <ℤ column_channel_y kit f = subst (λ (z : ℤ). y <ℤ z) (sym (channel_end plan kit wire tracks f m)) i.to in
    elim row [ inl main ↦ let a = main.1 in omega (arith, ints, from, a) | inr column ↦ let a = column.0 in omega (arith, ints, to, a) ]
part_off_channels plan kit wire tracks f m Columns y i row =
    let from = i.from in
    let c = column_high plan kit wire tracks f m in
    elim row [ inl main ↦ let a = main.1 in omega (arith, ints, from, a, c) | inr column ↦ let a = column.1 in omega (arith, ints, from, a) ]

joiner_begin : (plan : Organization) (kit : LayoutKit) (f : Floorplan) (h : Height) → HasJoiner h → f.row_x ≤ℤ columns_x plan kit f → f.row_x ≤ℤ bar_begin plan kit f h
joiner_begin plan kit f LogicLow has le = absurd has
joiner_begin plan kit f LogicHigh has le = absurd has
joiner_begin plan kit f WriteLow has le = absurd has
joiner_begin plan kit f WriteHigh has le = le
joiner_begin plan kit f SenseLow has le = absurd has
joiner_begin plan kit f SenseHigh has le = absurd has
joiner_begin plan kit f ColumnLow has le = absurd has
joiner_begin plan kit f ColumnHigh has le = omega (arith, ints)
joiner_begin plan kit f (CellRow r) has le = absurd has
joiner_begin plan kit f PrechargeLow has le = absurd has
joiner_begin plan kit f PrechargeHigh has le = absurd has

-- a cell behind an end stays behind it where both are moved, or the end is far away
behind_end : (reach dx there here x y d bx cell : ℤ) → IsAlikeLeft reach dx there here x y → here ≡ there +ℤ dx → there ≤ℤ (bx +ℤ d) → d ≤ℤ reach → bx ≤ℤ cell → x ≤ℤ cell → y ≤ℤ (cell +ℤ dx)
behind_end reach dx there here x y d bx cell (inl e) moved lies felt inside from = omega (arith, ints, e, from)
behind_end reach dx there here x y d bx cell (inr (a, b)) moved lies felt inside from = omega (arith, ints, b, moved, lies, felt, inside)

pub before_end : (reach dx there here x y d bx cell : ℤ) → IsAlikeRight reach dx there here x y → here ≡ there +ℤ dx → bx ≤ℤ (there +ℤ d) → d ≤ℤ reach → cell <ℤ bx → cell <ℤ x → (cell +ℤ dx) <ℤ y
before_end reach dx there here x y d bx cell (inl e) moved lies felt inside to = omega (arith, ints, e, to)
before_end reach dx there here x y d bx cell (inr (a, b)) moved lies felt inside to = omega (arith, ints, b, moved, lies, felt, inside)

module _ (Flat : List ℕ → Shape → Type 0) (plan other : Organization) (kit : LayoutKit) (bits : BitCells) (wire : Wire) (tracks many : Tracks) (f g : Floorplan) (by reach : ℤ) (from to : List Shape) (short : ReachesNeighboursOnly kit wire reach)
    (flat : HasDrawnShapes Flat plan kit bits wire tracks f by to) (h : HasDrawnShapes Flat other kit bits wire many g by from) (own : IsWireLayer wire (slice_index wire.metals 0))
    (dx dy : ℤ) (here there : Zone) (p : ArePaired other plan kit wire g f reach dx dy there here) (d : ℤ) (box : Rect) (at : IsBoxAt wire reach there there d box) (covered : IsCoveredBy (slice_index wire.metals 0) from box) where
  abbrev metal : ℕ
  metal = slice_index wire.metals 0

  abbrev m : IsDrawnMemory other kit wire many g
  m = h.drawn

  l : Levels other kit wire g
  l = levels other kit wire many g h.drawn.laid.sizes h.drawn.stands

  s_of : Sides other kit wire g
  s_of = sides other kit wire many g h.drawn.laid.sizes h.drawn.stands

  n : Numbers other kit g reach
  n = numbers other kit wire g reach h.drawn.laid short

  abbrev Covers : ℤ → ℤ → Type 0
  Covers x y = HasCellInSome (rects_on metal from) x y

  abbrev WireAt : ℤ → ℤ → Type 0
  WireAt x y = IsWireCell Flat other kit bits wire many g by from h metal x y

  -- the part of a wire
  wire_part : (x y : ℤ) → WireAt x y → (part : Storey) × IsInPart other kit g part y
  wire_part x y w = elim (on_metal other kit wire many g m w.shape w.on w.is) [
    | inl bar ↦ (part_of bar.0, in_part_at other kit wire many g m bar.0 w.shape y (in_part other kit wire many g m bar.0 (inl bar.1.has)) bar.1.at w.holds.low w.holds.high)
    | inr joiner ↦ (part_of joiner.1, in_part_at other kit wire many g m joiner.1 w.shape y (in_part other kit wire many g m joiner.1 (inr joiner.2.has)) joiner.2.at w.holds.low w.holds.high)
  ]

  bare_row : (x y : ℤ) → IsChannelRow other kit wire many g m y → Covers x y → ⊥
  bare_row x y row has = elim (cell_kind Flat other kit bits wire many g by from h metal x y own has) [
    | inl leaf ↦ zone_off_channels other kit wire many g m _ x y leaf.kind leaf.within row
    | inr w ↦ let q = wire_part x y w in part_off_channels other kit wire many g m q.0 y q.1 row
  ]

  -- the box reaches into no row of a channel, and so into no other part
  over : (x y line : ℤ) → HasCell box x y → there.high ≤ℤ line → IsChannelRow other kit wire many g m ((line +ℤ wire.space) -ℤ pos 1) → (line +ℤ wire.space) ≤ℤ y → ⊥
  over x y line inside top row le = bare_row x ((line +ℤ wire.space) -ℤ pos 1) row (covered x ((line +ℤ wire.space) -ℤ pos 1) (cell_over wire reach there there d box at line x y inside top le))

  under : (x y line : ℤ) → HasCell box x y → line ≤ℤ there.low → IsChannelRow other kit wire many g m (line -ℤ wire.space) → (y +ℤ wire.space) <ℤ line → ⊥
  under x y line inside foot row lt = bare_row x (line -ℤ wire.space) row (covered x (line -ℤ wire.space) (cell_under wire reach there there d box at line x y inside foot lt))

  pub one_part : (x y : ℤ) → HasCell box x y → (part zone_part : Storey) → IsInPart other kit g part y → there.low ≡ low g zone_part → there.high ≡ low g zone_part +ℤ tall_of other kit zone_part → zone_part ≡ part
  one_part x y inside LogicRow LogicRow i a b = refl
  one_part x y inside Slices LogicRow i a b = let q = i.from in let w = write_high other kit wire many g m in absurd (over x y (pos (kit.height Inv)) inside (omega (arith, ints, b)) (logic_top other kit wire many g m _ (over_logic other kit wire many g m)) (omega (arith, ints, q, w)))
  one_part x y inside Columns LogicRow i a b =
      let q = i.from in
      let w = write_high other kit wire many g m in
      let c = column_high other kit wire many g m in
      absurd (over x y (pos (kit.height Inv)) inside (omega (arith, ints, b)) (logic_top other kit wire many g m _ (over_logic other kit wire many g m)) (omega (arith, ints, q, w, c)))
  one_part x y inside LogicRow Slices i a b = let q = i.to in let w = write_high other kit wire many g m in absurd (under x y g.write_y inside (omega (arith, ints, a)) (slice_foot other kit wire many g m _ (under_slices other kit wire many g m)) (omega (arith, ints, q, w)))
  one_part x y inside Slices Slices i a b = refl
  one_part x y inside Columns Slices i a b =
      let q = i.from in
      let c = l.column in
      let e : there.high ≡ column_channel_y kit g = b ∙ sym (channel_end other kit wire many g m) in
      absurd (over x y (column_channel_y kit g) inside (omega (arith, ints, e)) (slice_top other kit wire many g m _ (over_slices other kit wire many g m)) (omega (arith, ints, q, c)))
  one_part x y inside LogicRow Columns i a b =
      let q = i.to in
      let w = write_high other kit wire many g m in
      let c = column_high other kit wire many g m in
      absurd (under x y g.column_y inside (omega (arith, ints, a)) (column_foot other kit wire many g m _ (under_columns other kit wire many g m)) (omega (arith, ints, q, w, c)))
  one_part x y inside Slices Columns i a b =
      let q : y <ℤ column_channel_y kit g = subst (λ (z : ℤ). y <ℤ z) (sym (channel_end other kit wire many g m)) i.to in
      let c = l.column in
      absurd (under x y g.column_y inside (omega (arith, ints, a)) (column_foot other kit wire many g m _ (under_columns other kit wire many g m)) (omega (arith, ints, q, c)))
  one_part x y inside Columns Columns i a b = refl

  -- heights move with the zone
  height_moves : (k : Height) → p.part ≡ part_of k → height_y plan kit wire f k ≡ height_y other kit wire g k +ℤ dy
  height_moves k e =
      go (low g (part_of k)) (low f (part_of k)) (rise_of other kit wire k) (rise_of plan kit wire k) there.low here.low (same_rise other plan kit wire k p.same) (p.low_here ∙ ap (low g) e) (p.low_there ∙ ap (low f) e) p.moved.low
    where
      go : (lg lf r s tl hl : ℤ) → s ≡ r → tl ≡ lg → hl ≡ lf → hl ≡ tl +ℤ dy → lf +ℤ s ≡ (lg +ℤ r) +ℤ dy
      go lg lf r s tl hl a b c e = omega (arith, ints, a, b, c, e)

  row_holds : (k : Height) (s t : Shape) (y : ℤ) → p.part ≡ part_of k → IsAtHeight other kit wire g k s → IsAtHeight plan kit wire f k t → s.rect.y1 ≤ℤ y → y <ℤ s.rect.y2 → (t.rect.y1 ≤ℤ (y +ℤ dy)) × ((y +ℤ dy) <ℤ t.rect.y2)
  row_holds k s t y e a b from to = go s.rect.y1 s.rect.y2 t.rect.y1 t.rect.y2 (height_y other kit wire g k) (height_y plan kit wire f k) (height_moves k e) a.low a.high b.low b.high from to where
    go : (s1 s2 t1 t2 u v : ℤ) → v ≡ u +ℤ dy → s1 ≡ u → s2 ≡ u +ℤ wire.width → t1 ≡ v → t2 ≡ v +ℤ wire.width → s1 ≤ℤ y → y <ℤ s2 → (t1 ≤ℤ (y +ℤ dy)) × ((y +ℤ dy) <ℤ t2)
    go s1 s2 t1 t2 u v e a b c d i j = (omega (arith, ints, e, a, c, i), omega (arith, ints, e, b, d, j))

  bar_kept : (box.x2 +ℤ dx) ≤ℤ (trunk_x plan kit wire f +ℤ wire.width) → (x y : ℤ) → HasCell box x y → (k : Height) (s : Shape) → p.part ≡ part_of k → IsBarAlong other kit wire g k s → HasCell s.rect x y → IsWireCell Flat plan kit bits wire tracks f by to flat metal (x +ℤ dx) (y +ℤ dy)
  bar_kept right_end x y inside k s e bar has =
      let t = a_bar plan kit wire tracks f flat.drawn k (same_bars other plan k p.same bar.has) (begins_first (bar_begin plan kit f k) (trunk_x plan kit wire f) (trunk_by plan kit wire f (is_power k)) (begins plan kit wire tracks f flat.drawn k) (trunks plan kit wire tracks f flat.drawn (is_power k))) in
      let rows = row_holds k s t.0 y e bar.at t.3.at has.low has.high in
      record {
        shape = t.0;
        on = t.2;
        holds = record {
          left = subst (λ (z : ℤ). z ≤ℤ (x +ℤ dx)) (sym t.3.left) (behind_end reach dx there.left here.left (bar_begin other kit g k) (bar_begin plan kit f k) d box.x1 x (p.bars k e) p.moved.left at.lies.left at.felt inside.left (subst (λ (z : ℤ). z ≤ℤ x) bar.left has.left));
          right = ends x box.x2 (trunk_x plan kit wire f) (trunk_by plan kit wire f (is_power k)) t.0.rect.x2 right_end inside.right (trunks plan kit wire tracks f flat.drawn (is_power k)) t.3.right;
          low = rows.0;
          high = rows.1;
        };
        is = t.1;
      }
    where
      begins_first : (b t u : ℤ) → (b +ℤ wire.space) ≤ℤ t → t ≤ℤ u → b <ℤ (u +ℤ wire.width)
      begins_first b t u a c = let w = m.laid.sizes.width.from in let sp = m.laid.sizes.space.from in omega (arith, ints, a, c, w, sp)

      ends : (x bx t u end : ℤ) → (bx +ℤ dx) ≤ℤ (t +ℤ wire.width) → x <ℤ bx → t ≤ℤ u → end ≡ u +ℤ wire.width → (x +ℤ dx) <ℤ end
      ends x bx t u end right inside le is = omega (arith, ints, right, inside, le, is)

  -- a joiner near the zone is one of its bank
  pub one_bank : (x y : ℤ) → HasCell box x y → (b : ℕ) (k : Height) (s : Shape) (joiner : IsJoinerAlong other kit wire g b k s) (j : AreJoinersAlike other plan kit g f reach dx there here k) → HasCell s.rect x y → b ≡ j.bank
  one_bank x y inside b k s joiner j has = elim (cases_lt b j.bank) [
    | inl lt ↦ absurd (before x s.rect.x2 box.x1 there.left (pos b *ℤ g.bank_width) (pos j.bank *ℤ g.bank_width) g.row_x g.bank_width (columns_end other kit g) has.right joiner.right h.drawn.stands.bank_width (banks_left other kit wire many g m b j.bank lt) j.from_here at.lies.left inside.left at.felt n.front)
    | inr ge ↦ elim (cases_lt j.bank b) [
      | inl lt ↦ absurd (after x s.rect.x1 box.x2 there.right (pos b *ℤ g.bank_width) (pos j.bank *ℤ g.bank_width) g.row_x g.bank_width (columns_end other kit g) (bar_begin other kit g k) has.left joiner.left h.drawn.stands.bank_width (banks_left other kit wire many g m j.bank b lt) j.to_here at.lies.right inside.right at.felt n.front (joiner_begin other kit g k joiner.has s_of.columns))
      | inr le ↦ omega (arith, ge, le)
    ]
  ] where
    before : (x s2 bx tl q v row bank end : ℤ) → x <ℤ s2 → s2 ≡ end +ℤ q → bank ≡ end → (q +ℤ bank) ≤ℤ v → (row +ℤ v) ≤ℤ tl → tl ≤ℤ (bx +ℤ d) → bx ≤ℤ x → d ≤ℤ reach → reach ≤ℤ row → ⊥
    before x s2 bx tl q v row bank end a e w k from lies inside felt front = omega (arith, ints, a, e, w, k, from, lies, inside, felt, front)

    after : (x s1 bx tr q v row bank end bar_begin : ℤ) → s1 ≤ℤ x → s1 ≡ bar_begin +ℤ q → bank ≡ end → (v +ℤ bank) ≤ℤ q → tr ≤ℤ (end +ℤ v) → bx ≤ℤ (tr +ℤ d) → x <ℤ bx → d ≤ℤ reach → reach ≤ℤ row → row ≤ℤ bar_begin → ⊥
    after x s1 bx tr q v row bank end bar_begin a e w k to lies inside felt front first = omega (arith, ints, a, e, w, k, to, lies, inside, felt, front, first)

  pub joiner_kept : (x y : ℤ) → HasCell box x y → (b : ℕ) (k : Height) (s : Shape) → p.part ≡ part_of k → IsJoinerAlong other kit wire g b k s → HasCell s.rect x y → IsWireCell Flat plan kit bits wire tracks f by to flat metal (x +ℤ dx) (y +ℤ dy)
  joiner_kept x y inside b k s e joiner has =
      let j = p.joiners k joiner.has e in
      let same = one_bank x y inside b k s joiner j has in
      let t = a_joiner plan kit wire tracks f flat.drawn j.bank k j.below_there joiner.has j.wide_there in
      let rows = row_holds k s t.0 y e joiner.at t.3.at has.low has.high in
      record {
        shape = t.0;
        on = t.2;
        holds = record {
          left = subst (λ (z : ℤ). z ≤ℤ (x +ℤ dx)) (sym t.3.left)
              (behind_end reach dx there.left here.left (bank_x g j.bank (bar_begin other kit g k)) (bank_x f j.bank (bar_begin plan kit f k)) d box.x1 x j.left p.moved.left at.lies.left at.felt inside.left (subst (λ (z : ℤ). z ≤ℤ x) (joiner.left ∙ ap (λ (i : ℕ). bank_x g i (bar_begin other kit g k)) same) has.left));
          right = subst (λ (z : ℤ). (x +ℤ dx) <ℤ z) (sym t.3.right)
              (before_end reach dx there.right here.right (bank_x g j.bank (columns_end other kit g)) (bank_x f j.bank (columns_end plan kit f)) d box.x2 x j.right p.moved.right at.lies.right at.felt inside.right (subst (λ (z : ℤ). x <ℤ z) (joiner.right ∙ ap (λ (i : ℕ). bank_x g i (columns_end other kit g)) same) has.right));
          low = rows.0;
          high = rows.1;
        };
        is = t.1;
      }

  -- each wire that covers a cell of the box covers it, moved, here
  pub first_kept : (box.x2 +ℤ dx) ≤ℤ (trunk_x plan kit wire f +ℤ wire.width) → (x y : ℤ) → HasCell box x y → IsWireCell Flat other kit bits wire many g by from h metal x y → IsWireCell Flat plan kit bits wire tracks f by to flat metal (x +ℤ dx) (y +ℤ dy)
  first_kept right_end x y inside w = elim (on_metal other kit wire many g m w.shape w.on w.is) [
    | inl bar ↦
        let i = in_part_at other kit wire many g m bar.0 w.shape y (in_part other kit wire many g m bar.0 (inl bar.1.has)) bar.1.at w.holds.low w.holds.high in
        bar_kept right_end x y inside bar.0 w.shape (one_part x y inside (part_of bar.0) p.part i p.low_here p.high_here) bar.1 w.holds
    | inr joiner ↦
        let i = in_part_at other kit wire many g m joiner.1 w.shape y (in_part other kit wire many g m joiner.1 (inr joiner.2.has)) joiner.2.at w.holds.low w.holds.high in
        joiner_kept x y inside joiner.0 joiner.1 w.shape (one_part x y inside (part_of joiner.1) p.part i p.low_here p.high_here) joiner.2 w.holds
  ]
