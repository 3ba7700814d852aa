-- Where bars on the first metal end in the memory, a column of a box that bars cover in a small one is no higher than a wire.
use Rattle.std.proofs.Common.{◌≡◌, ◌⊎◌, inl, inr, ◌∙◌, ℕ, ℤ, pos, ◌+ℤ◌, ◌*ℤ◌, ◌≤ℤ◌, ◌<ℤ◌, List, sym, ap, subst, arith}
use Rattle.std.specs.Prelude.{slice_index}
use Rattle.std.proofs.lemmas.Int.{ints}
use Rattle.or_geom.specs.declared.shape.Rect.{Rect}
use Rattle.or_geom.specs.declared.shape.Shape.{Shape}
use Rattle.or_geom.specs.Covered.{HasCell}
use Rattle.shape_bins.specs.Layers.{IsCoveredBy}
use Rattle.cell_roles.specs.declared.role.Role.{Role}
use Rattle.tech_rules.specs.declared.tech.Wire.{Wire}
use Rattle.sram_netlist.specs.Organization.{Organization}
use Rattle.sram_netlist.specs.Netlist.{role}
use Rattle.sram_netlist.specs.BitCells.{BitCells}
use Rattle.macro_layout.specs.LayoutKit.{LayoutKit}
use Rattle.macro_layout.specs.Places.{Floorplan, bank_x, leaf_cell}
use Rattle.macro_layout.specs.Floorplan.{Tracks}
use Rattle.macro_layout.specs.Wires.{trunk_x, columns_end}
use Rattle.good_places.specs.Leaves.{Zone, zone_of, ReachesNeighboursOnly}
use Rattle.good_places.specs.Zones.{MovesNear}
use Rattle.leaf_shapes.specs.Outline.{IsWireLayer}
use Rattle.good_places.proofs.LookLaws.{shape_moves}
use Rattle.good_wires.specs.Drawn.{IsDrawnMemory}
use Rattle.good_wires.specs.Kept.{HasDrawnShapes}
use Rattle.good_wires.proofs.ClearLaws.{zone_kind}
use Rattle.supply_bars.specs.Heights.{Storey, Height, part_of, low, IsBarAlong, IsJoinerAlong, height_y}
use Rattle.supply_bars.proofs.HeightLaws.{on_metal}
use Rattle.supply_bars.proofs.PartLaws.{rise_of, in_part, banks_end}
use Rattle.supply_bars.proofs.PairedLaws.{ArePaired}
use Rattle.upright_covers.proofs.BoxLaws.{IsLeafCell, IsWireCell, cell_kind, cells_near, leaf_lies}
use Rattle.upright_covers.proofs.AtLaws.{IsBoxAt, zone_before_trunk}
use Rattle.upright_covers.proofs.ApartLaws.{span_narrow}
use Rattle.level_covers.proofs.BarApartLaws.{AreLevelsApart, bars_apart}
use Rattle.level_covers.proofs.FirstBoxLaws.{in_part_at, one_part, one_bank, before_end}

-- heights that are one or apart, above one line
levels_at : (width low a b y1 y2 v1 v2 : ℤ) → AreLevelsApart width a b → y1 ≡ low +ℤ a → y2 ≡ (low +ℤ a) +ℤ width → v1 ≡ low +ℤ b → v2 ≡ (low +ℤ b) +ℤ width → ((y1 ≡ v1) × (y2 ≡ v2)) ⊎ (((y2 +ℤ pos 1) ≤ℤ v1) ⊎ ((v2 +ℤ pos 1) ≤ℤ y1))
levels_at width low a b y1 y2 v1 v2 (inl e) p q r s = inl (omega (arith, ints, e, p, r), omega (arith, ints, e, q, s))
levels_at width low a b y1 y2 v1 v2 (inr (inl le)) p q r s = inr (inl (omega (arith, ints, le, q, r)))
levels_at width low a b y1 y2 v1 v2 (inr (inr le)) p q r s = inr (inr (omega (arith, ints, le, p, s)))

module _ (Flat : List ℕ → Shape → Type 0) (plan other : Organization) (kit : LayoutKit) (bits : BitCells) (wire : Wire) (tracks many : Tracks) (f g : Floorplan) (by reach : ℤ) (from to : List Shape) (short : ReachesNeighboursOnly kit wire reach)
    (flat : HasDrawnShapes Flat plan kit bits wire tracks f by to) (h : HasDrawnShapes Flat other kit bits wire many g by from) (own : IsWireLayer wire (slice_index wire.metals 0)) (tall : (role : Role) → (wire.width +ℤ wire.width) <ℤ pos (kit.height role))
    (dx dy : ℤ) (here there : Zone) (moves : MovesNear reach other g there plan f kit bits dx dy) (p : ArePaired other plan kit wire g f reach dx dy there here) (d : ℤ) (box : Rect) (at : IsBoxAt wire reach there there d box) (covered : IsCoveredBy (slice_index wire.metals 0) from box) where
  abbrev metal : ℕ
  metal = slice_index wire.metals 0

  abbrev m : IsDrawnMemory other kit wire many g
  m = h.drawn

  abbrev end : ℤ
  end = trunk_x plan kit wire f +ℤ wire.width

  -- no leaf instance stands there here, and so none there
  no_leaf : (x y : ℤ) → HasCell box x y → end ≤ℤ (x +ℤ dx) → IsLeafCell Flat other kit bits wire many g by from h metal x y → ⊥
  no_leaf x y inside far leaf =
      let o = leaf.of in
      let s = shape_moves Flat plan kit bits f dx dy (role other o.leaf) (leaf_cell other kit bits o.leaf) o.place o.taken.inner leaf.shape
      (moves o.leaf o.place o.has o.stands (cells_near d reach (zone_of other kit g o.leaf o.place) there box x y at.lies at.felt inside leaf.within)) o.taken.has o.taken.moved in
      let z = zone_of plan kit f s.of.leaf s.of.place in
      let lies = leaf_lies Flat plan kit bits wire tracks f by to flat s.moved.0 (subst (IsWireLayer wire) (sym (s.moved.1 ∙ leaf.on)) own) s.of in
      go leaf.shape.rect s.moved.0.rect z.right (trunk_x plan kit wire f) s.moved.2.x2 leaf.holds.right lies.right (zone_before_trunk plan kit wire tracks f flat.drawn z (zone_kind plan kit wire tracks f flat.drawn s.of.leaf s.of.place s.of.has s.of.stands)) far m.laid.sizes.width.from m.laid.sizes.space.from
    where
      go : (r t : Rect) (zr u : ℤ) → t.x2 ≡ r.x2 +ℤ dx → x <ℤ r.x2 → t.x2 ≤ℤ (zr +ℤ pos 0) → (zr +ℤ wire.space) ≤ℤ u → (u +ℤ wire.width) ≤ℤ (x +ℤ dx) → pos 1 ≤ℤ wire.width → pos 1 ≤ℤ wire.space → ⊥
      go r t zr u e lt le before far w sp = omega (arith, ints, e, lt, le, before, far, w, sp)

  -- nor joiners
  no_joiner : (x y : ℤ) → HasCell box x y → end ≤ℤ (x +ℤ dx) → (b : ℕ) (k : Height) (s : Shape) → p.part ≡ part_of k → IsJoinerAlong other kit wire g b k s → HasCell s.rect x y → ⊥
  no_joiner x y inside far b k s e joiner has =
      let j = p.joiners k joiner.has e in
      let same = one_bank Flat plan other kit bits wire tracks many f g by reach from to short flat h own dx dy here there p d box at covered x y inside b k s joiner j has in
      let before = before_end reach dx there.right here.right (bank_x g j.bank (columns_end other kit g)) (bank_x f j.bank (columns_end plan kit f)) d box.x2 x j.right p.moved.right at.lies.right at.felt inside.right (subst (λ (z : ℤ). x <ℤ z) (joiner.right ∙ ap (λ (i : ℕ). bank_x g i (columns_end other kit g)) same) has.right) in
      go (columns_end plan kit f) f.bank_width (pos j.bank *ℤ f.bank_width) (trunk_x plan kit wire f) before flat.drawn.stands.bank_width (banks_end plan kit wire tracks f flat.drawn j.bank j.below_there) far m.laid.sizes.width.from m.laid.sizes.space.from
    where
      go : (c bank q u : ℤ) → (x +ℤ dx) <ℤ (c +ℤ q) → bank ≡ c → ((bank +ℤ q) +ℤ wire.space) ≤ℤ u → (u +ℤ wire.width) ≤ℤ (x +ℤ dx) → pos 1 ≤ℤ wire.width → pos 1 ≤ℤ wire.space → ⊥
      go c bank q u before e le far w sp = omega (arith, ints, before, e, le, far, w, sp)

  record IsColumnBar (s : Shape) : Type 0 where
    pub height : Height
    pub bar : IsBarAlong other kit wire g height s
    pub part : p.part ≡ part_of height

  bar_cell : (x y : ℤ) → HasCell box x y → end ≤ℤ (x +ℤ dx) → (w : IsWireCell Flat other kit bits wire many g by from h metal x y) → IsColumnBar w.shape
  bar_cell x y inside far w = elim (on_metal other kit wire many g m w.shape w.on w.is) [
    | inl bar ↦
        let i = in_part_at other kit wire many g m bar.0 w.shape y (in_part other kit wire many g m bar.0 (inl bar.1.has)) bar.1.at w.holds.low w.holds.high in
        record { height = bar.0; bar = bar.1; part = one_part Flat plan other kit bits wire tracks many f g by reach from to short flat h own dx dy here there p d box at covered x y inside (part_of bar.0) p.part i p.low_here p.high_here }
    | inr joiner ↦
        let i = in_part_at other kit wire many g m joiner.1 w.shape y (in_part other kit wire many g m joiner.1 (inr joiner.2.has)) joiner.2.at w.holds.low w.holds.high in
        absurd (no_joiner x y inside far joiner.0 joiner.1 w.shape (one_part Flat plan other kit bits wire tracks many f g by reach from to short flat h own dx dy here there p d box at covered x y inside (part_of joiner.1) p.part i p.low_here p.high_here) joiner.2 w.holds)
  ]

  pub bar_column : (x y : ℤ) → HasCell box x y → end ≤ℤ (x +ℤ dx) → box.y2 ≤ℤ (box.y1 +ℤ wire.width)
  bar_column x y inside far = span_narrow (pos 1) wire.width box.y1 box.y2 IsColumnBar (λ s. s.rect.y1) (λ s. s.rect.y2) (omega (arith, ints)) box.tall sizes apart all where
    at_height : (s : Shape) (b : IsColumnBar s) → (s.rect.y1 ≡ low g p.part +ℤ rise_of other kit wire b.height) × (s.rect.y2 ≡ (low g p.part +ℤ rise_of other kit wire b.height) +ℤ wire.width)
    at_height s b =
        let e : height_y other kit wire g b.height ≡ low g p.part +ℤ rise_of other kit wire b.height = ap (λ (q : Storey). low g q +ℤ rise_of other kit wire b.height) (sym b.part) in
        (b.bar.at.low ∙ e, b.bar.at.high ∙ ap (λ (z : ℤ). z +ℤ wire.width) e)

    sizes : (s : Shape) → IsColumnBar s → (s.rect.y1 <ℤ s.rect.y2) × (s.rect.y2 ≤ℤ (s.rect.y1 +ℤ wire.width))
    sizes s b = let q = at_height s b in (s.rect.tall, go s.rect.y1 s.rect.y2 (low g p.part +ℤ rise_of other kit wire b.height) q.0 q.1) where
      go : (y1 y2 z : ℤ) → y1 ≡ z → y2 ≡ z +ℤ wire.width → y2 ≤ℤ (y1 +ℤ wire.width)
      go y1 y2 z a c = omega (arith, ints, a, c)

    apart : (s u : Shape) → IsColumnBar s → IsColumnBar u → ((s.rect.y1 ≡ u.rect.y1) × (s.rect.y2 ≡ u.rect.y2)) ⊎ (((s.rect.y2 +ℤ pos 1) ≤ℤ u.rect.y1) ⊎ ((u.rect.y2 +ℤ pos 1) ≤ℤ s.rect.y1))
    apart s u a b =
        let q = at_height s a in
        let r = at_height u b in
        levels_at wire.width (low g p.part) (rise_of other kit wire a.height) (rise_of other kit wire b.height) s.rect.y1 s.rect.y2 u.rect.y1 u.rect.y2 (bars_apart other kit wire m.laid.sizes.width.from tall p.part a.height b.height a.part b.part a.bar.has b.bar.has) q.0 q.1 r.0 r.1

    all : (v : ℤ) → box.y1 ≤ℤ v → v <ℤ box.y2 → (s : Shape) × IsColumnBar s × (s.rect.y1 ≤ℤ v) × (v <ℤ s.rect.y2)
    all v under over =
        let cell : HasCell box x v = record { left = inside.left; right = inside.right; low = under; high = over } in
        elim (cell_kind Flat other kit bits wire many g by from h metal x v own (covered x v cell)) [
          | inl leaf ↦ absurd (no_leaf x v cell far leaf)
          | inr w ↦ (w.shape, bar_cell x v cell far w, w.holds.low, w.holds.high)
        ]
