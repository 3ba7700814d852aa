-- Zones of one kind are paired.
use Rattle.std.proofs.Common.{◌≡◌, inl, inr, ◌∙◌, ℕ, ◌+◌, ◌*◌, ◌<◌, ℤ, pos, ◌+ℤ◌, ◌-ℤ◌, ◌*ℤ◌, ◌≤ℤ◌, List, ◌∷◌, ◌++◌, refl, sym, ap, subst, arith}
use Rattle.std.specs.Int.{int_max}
use Rattle.std.proofs.Math.Nat.{mul_assoc}
use Rattle.std.proofs.lemmas.Int.{ints, clamps}
use Rattle.cell_roles.specs.declared.role.Role.TheVariants.{Driver, Inv}
use Rattle.tech_rules.specs.declared.tech.Wire.{Wire}
use Rattle.sram_netlist.specs.Organization.{Organization, power_of_two, words_per_row, columns_of, banks_of}
use Rattle.sram_netlist.specs.Instances.{LogicCell}
use Rattle.sram_netlist.specs.InstanceList.{logic_cells}
use Rattle.sram_netlist.specs.Netlist.{row_gate, logic_role}
use Rattle.macro_layout.specs.LayoutKit.{LayoutKit}
use Rattle.macro_layout.specs.Places.{Floorplan, bank_x, columns_x, bit_width, drive_width, total_width}
use Rattle.macro_layout.specs.Floorplan.{Tracks}
use Rattle.macro_layout.specs.Wires.{trunk_x}
use Rattle.good_places.specs.Beside.{AreAtOneEdge, HaveOneLeftPart}
use Rattle.good_places.specs.Leaves.{Zone, column_zone, front_zone, slice_zone, ReachesNeighboursOnly}
use Rattle.good_places.specs.Row.{behind, roles_of, IsGuarded}
use Rattle.good_places.specs.Kinds.{AreRowCells, AreOfOneKind}
use Rattle.good_places.specs.Seen.{IsMovedZone}
use Rattle.good_places.proofs.NumberLaws.{all_of}
use Rattle.good_places.proofs.WindowLaws.{power_low}
use Rattle.good_places.proofs.RowLaws.{same_widths, total_split}
use Rattle.good_wires.specs.Drawn.{IsDrawnMemory}
use Rattle.supply_bars.specs.Heights.{LogicRow, Slices, Columns, bar_begin}
use Rattle.supply_bars.proofs.SideLaws.{AreGaps, IsBankSide, bank_sides, first_gaps, last_gap, last_gaps, gap_left}
use Rattle.supply_bars.proofs.PairedLaws.{ArePaired, upper_end, channel_end, from_sides, logic_begin, no_joiner}

module _ (plan : Organization) (kit : LayoutKit) (wire : Wire) (tracks : Tracks) (f : Floorplan) (m : IsDrawnMemory plan kit wire tracks f) (reach : ℤ) (short : ReachesNeighboursOnly kit wire reach) where
  some_wide : (c n u : ℕ) → c < n → reach ≤ℤ pos u → reach ≤ℤ pos (n * u)
  some_wide c n u lt le = let a = all_of c n u lt in omega (arith, ints, a, le)

  some_last : (c n u : ℕ) → c < n → pos 0 ≤ℤ last_gap c n u
  unfolding last_gap
  some_last c n u lt = let a = all_of c n u lt in omega (arith, ints, a)

  -- of so many that are so wide, one is the zone
  side_of : (b c n u k all : ℕ) (z : Zone) → c < n → reach ≤ℤ pos u → k ≡ c * u → all ≡ n * u → all ≡ columns_of plan * bit_width kit
      → z.left ≡ bank_x f b (columns_x plan kit f +ℤ pos k) → z.right ≡ bank_x f b (columns_x plan kit f +ℤ pos k) +ℤ pos u
      → IsBankSide plan kit f reach b z (pos (drive_width plan kit) +ℤ pos (c * u)) (pos 0 +ℤ pos (c * u)) (last_gap c n u)
  unfolding last_gap
  side_of b c n u k all z lt wide first all_is columns left right = record {
    from_rows = rows f.row_x (pos b *ℤ f.bank_width) (drive_width plan kit) k (c * u) z.left first left;
    from_columns = here (columns_x plan kit f) (pos b *ℤ f.bank_width) k (c * u) z.left first left;
    to_end = to (columns_x plan kit f) (pos b *ℤ f.bank_width) k (c * u) u all (n * u) (columns_of plan * bit_width kit) z.right first all_is columns right;
    some_rows = some (drive_width plan kit) (c * u);
    some_end = some_last c n u lt;
    wide = subst (λ (q : ℕ). reach ≤ℤ pos q) (sym all_is ∙ columns) (some_wide c n u lt wide);
  } where
    rows : (r q : ℤ) (d k x : ℕ) (l : ℤ) → k ≡ x → l ≡ ((r +ℤ pos d) +ℤ pos k) +ℤ q → l ≡ (r +ℤ q) +ℤ (pos d +ℤ pos x)
    rows r q d k x l e is = omega (arith, ints, e, is)

    here : (c q : ℤ) (k x : ℕ) (l : ℤ) → k ≡ x → l ≡ (c +ℤ pos k) +ℤ q → l ≡ (c +ℤ q) +ℤ (pos 0 +ℤ pos x)
    here c q k x l e is = omega (arith, ints, e, is)

    to : (c q : ℤ) (k x u a n m : ℕ) (r : ℤ) → k ≡ x → a ≡ n → a ≡ m → r ≡ ((c +ℤ pos k) +ℤ q) +ℤ pos u → (c +ℤ pos m) +ℤ q ≡ r +ℤ (pos n -ℤ pos (x + u))
    to c q k x u a n m r e s t is = omega (arith, ints, e, s, t, is)

    some : (d x : ℕ) → pos 0 ≤ℤ (pos d +ℤ pos x)
    some d x = omega (arith, ints)

  -- the front of the rows is the zone
  front_side : (b : ℕ) → 0 < columns_of plan → IsBankSide plan kit f reach b (front_zone plan kit f b) (pos 0) (pos 0 -ℤ pos (drive_width plan kit)) (pos (columns_of plan * bit_width kit))
  front_side b some = record {
    from_rows = rows (bank_x f b f.row_x);
    from_columns = columns f.row_x (pos b *ℤ f.bank_width) (drive_width plan kit);
    to_end = to (columns_x plan kit f) (pos b *ℤ f.bank_width) (columns_of plan * bit_width kit);
    some_rows = nothing;
    some_end = above (columns_of plan * bit_width kit);
    wide = some_wide 0 (columns_of plan) (bit_width kit) some short.bitcell;
  } where
    rows : (x : ℤ) → x ≡ x +ℤ pos 0
    rows x = omega (arith, ints)

    columns : (r q : ℤ) (d : ℕ) → r +ℤ q ≡ ((r +ℤ pos d) +ℤ q) +ℤ (pos 0 -ℤ pos d)
    columns r q d = omega (arith, ints)

    to : (c q : ℤ) (n : ℕ) → (c +ℤ pos n) +ℤ q ≡ (c +ℤ q) +ℤ pos n
    to c q n = omega (arith, ints)

    nothing : pos 0 ≤ℤ pos 0
    nothing = omega (arith, ints)

    above : (n : ℕ) → pos 0 ≤ℤ pos n
    above n = omega (arith, ints)

module _ (plan other : Organization) (kit : LayoutKit) (wire : Wire) (tracks many : Tracks) (f g : Floorplan) (m : IsDrawnMemory plan kit wire tracks f) (n : IsDrawnMemory other kit wire many g) (reach : ℤ) (short : ReachesNeighboursOnly kit wire reach) (same : HaveOneLeftPart plan other) (ex ey : ℤ) where
  abbrev Paired : Zone → Zone → Type 0
  Paired here there = ArePaired plan other kit wire f g reach ex ey here there

  drives : drive_width plan kit ≡ drive_width other kit
  drives = sym (λ i. kit.width (row_gate (same.groups i)) + kit.width Driver)

  not_slices : LogicRow ≡ Slices → ⊥
  not_slices e = cc

  not_columns : LogicRow ≡ Columns → ⊥
  not_columns e = cc

  both_zero : (c d : ℕ) (u : ℕ) → reach ≤ℤ pos u → ((c ≡ 0 → d ≡ 0) × (d ≡ 0 → c ≡ 0)) → AreGaps reach (pos 0 +ℤ pos (c * u)) (pos 0 +ℤ pos (d * u))
  both_zero c d u wide edge = first_gaps reach c d u 0 0 wide refl edge

  column_pair : (b c d : ℕ) → b < banks_of plan → AreAtOneEdge (columns_of plan) c (columns_of other) d → IsMovedZone ex ey (column_zone plan kit f b c) (column_zone other kit g b d) → Paired (column_zone plan kit f b c) (column_zone other kit g b d)
  column_pair b c d lt edge moved =
      let u = bit_width kit in
      let side = side_of plan kit wire tracks f m reach short b c (columns_of plan) u (c * u) (columns_of plan * u) (column_zone plan kit f b c) edge.here short.bitcell refl refl refl refl refl in
      let side2 = side_of other kit wire many g n reach short b d (columns_of other) u (d * u) (columns_of other * u) (column_zone other kit g b d) edge.there short.bitcell refl refl refl refl refl in
      let rows = pos (drive_width plan kit) +ℤ pos (c * u) in
      let rows2 = pos (drive_width other kit) +ℤ pos (d * u) in
      let columns = pos 0 +ℤ pos (c * u) in
      let columns2 = pos 0 +ℤ pos (d * u) in
      let end = last_gap c (columns_of plan) u in
      let end2 = last_gap d (columns_of other) u in
      from_sides plan other kit wire tracks many f g m n reach short same ex ey b Columns (column_zone plan kit f b c) (column_zone other kit g b d) rows columns end rows2 columns2 end2 lt not_columns refl (upper_end plan kit wire tracks f m) refl (upper_end other kit wire many g n) moved side side2
      (bank_sides plan other kit wire tracks many f g m n reach ex b (column_zone plan kit f b c) (column_zone other kit g b d) rows columns end rows2 columns2 end2 side side2 moved.left moved.right
      (first_gaps reach c d u (drive_width plan kit) (drive_width other kit) short.bitcell drives edge.first) (both_zero c d u short.bitcell edge.first) (last_gaps reach c (columns_of plan) d (columns_of other) u short.bitcell edge))

  front_pair : (b : ℕ) → b < banks_of plan → AreAtOneEdge (columns_of plan) 0 (columns_of other) 0 → IsMovedZone ex ey (front_zone plan kit f b) (front_zone other kit g b) → Paired (front_zone plan kit f b) (front_zone other kit g b)
  front_pair b lt edge moved =
      let side = front_side plan kit wire tracks f m reach short b edge.here in
      let side2 = front_side other kit wire many g n reach short b edge.there in
      let gap = pos 0 -ℤ pos (drive_width plan kit) in
      let gap2 = pos 0 -ℤ pos (drive_width other kit) in
      let end = pos (columns_of plan * bit_width kit) in
      let end2 = pos (columns_of other * bit_width kit) in
      from_sides plan other kit wire tracks many f g m n reach short same ex ey b Columns (front_zone plan kit f b) (front_zone other kit g b) (pos 0) gap end (pos 0) gap2 end2 lt not_columns refl (upper_end plan kit wire tracks f m) refl (upper_end other kit wire many g n) moved side side2
      (bank_sides plan other kit wire tracks many f g m n reach ex b (front_zone plan kit f b) (front_zone other kit g b) (pos 0) gap end (pos 0) gap2 end2 side side2 moved.left moved.right
      (inl refl) (inl (ap (λ (d : ℕ). pos 0 -ℤ pos d) drives)) (inr (side.wide, side2.wide)))

  -- a slice is as wide as the columns of its bit
  slice_unit : reach ≤ℤ pos (words_per_row plan * bit_width kit)
  slice_unit = let a = all_of 0 (words_per_row plan) (bit_width kit) (power_low plan.col_bits) in let c = short.bitcell in omega (arith, ints, a, c)

  same_words : words_per_row other ≡ words_per_row plan
  same_words = ap power_of_two same.col_bits

  slice_pair : (b i j : ℕ) → b < banks_of plan → AreAtOneEdge plan.word_size i other.word_size j → IsMovedZone ex ey (slice_zone plan kit f b i) (slice_zone other kit g b j) → Paired (slice_zone plan kit f b i) (slice_zone other kit g b j)
  slice_pair b i j lt edge moved =
      let w = bit_width kit in
      let u = words_per_row plan * bit_width kit in
      let same_unit : words_per_row other * bit_width kit ≡ u = ap (λ (k : ℕ). k * bit_width kit) same_words in
      let side = side_of plan kit wire tracks f m reach short b i plan.word_size u ((i * words_per_row plan) * w) (columns_of plan * w) (slice_zone plan kit f b i) edge.here slice_unit (mul_assoc i (words_per_row plan) w) (mul_assoc plan.word_size (words_per_row plan) w) refl refl refl in
      let side2 = side_of other kit wire many g n reach short b j other.word_size u ((j * words_per_row other) * w) (columns_of other * w) (slice_zone other kit g b j) edge.there slice_unit (mul_assoc j (words_per_row other) w ∙ ap (λ (k : ℕ). j * k) same_unit) (mul_assoc other.word_size (words_per_row other) w ∙ ap (λ (k : ℕ). other.word_size * k) same_unit) refl refl
      (ap (λ (k : ℕ). bank_x g b (columns_x other kit g +ℤ pos ((j * words_per_row other) * w)) +ℤ pos k) same_unit) in
      let rows = pos (drive_width plan kit) +ℤ pos (i * u) in
      let rows2 = pos (drive_width other kit) +ℤ pos (j * u) in
      let columns = pos 0 +ℤ pos (i * u) in
      let columns2 = pos 0 +ℤ pos (j * u) in
      let end = last_gap i plan.word_size u in
      let end2 = last_gap j other.word_size u in
      from_sides plan other kit wire tracks many f g m n reach short same ex ey b Slices (slice_zone plan kit f b i) (slice_zone other kit g b j) rows columns end rows2 columns2 end2 lt not_slices refl (channel_end plan kit wire tracks f m) refl (channel_end other kit wire many g n) moved side side2
      (bank_sides plan other kit wire tracks many f g m n reach ex b (slice_zone plan kit f b i) (slice_zone other kit g b j) rows columns end rows2 columns2 end2 side side2 moved.left moved.right
      (first_gaps reach i j u (drive_width plan kit) (drive_width other kit) slice_unit drives edge.first) (both_zero i j u slice_unit edge.first) (last_gaps reach i plan.word_size j other.word_size u slice_unit edge))

  -- Cells of the logic row

  before_end : (one : Organization) (h : Floorplan) (front before after back : List LogicCell) (cell : LogicCell) → logic_cells one ≡ front ++ ((before ++ (cell ∷ after)) ++ back)
      → ((behind one kit h (front ++ before) +ℤ pos (kit.width (logic_role one cell))) +ℤ wire.space) ≤ℤ trunk_x one kit wire h
  before_end one h front before after back cell is =
      go h.logic_x (pos (banks_of one) *ℤ h.bank_width) wire.space (total_width one kit (logic_cells one)) (total_width one kit (front ++ before)) (total_width one kit front) (total_width one kit before) (kit.width (logic_role one cell)) (total_width one kit after) (total_width one kit back) (total_width one kit (before ++ (cell ∷ after)))
      (total_width one kit ((before ++ (cell ∷ after)) ++ back)) (total_split one kit front before) (total_split one kit before (cell ∷ after)) (total_split one kit (before ++ (cell ∷ after)) back) (ap (total_width one kit) is ∙ total_split one kit front ((before ++ (cell ∷ after)) ++ back))
    where
      go : (x q s : ℤ) (all fb f b w a k p t : ℕ) → fb ≡ f + b → p ≡ b + (w + a) → t ≡ p + k → all ≡ f + t → (((x +ℤ pos fb) +ℤ pos w) +ℤ s) ≤ℤ (int_max q (x +ℤ pos all) +ℤ s)
      go x q s all fb f b w a k p t e1 e2 e3 e4 = omega (arith, ints, clamps, e1, e2, e3, e4)

  row_gaps : (front before after back front2 before2 after2 back2 : List LogicCell) → roles_of plan before ≡ roles_of other before2 → IsGuarded reach plan kit front before after back → IsGuarded reach other kit front2 before2 after2 back2
      → AreGaps reach (pos (total_width plan kit (front ++ before))) (pos (total_width other kit (front2 ++ before2)))
  row_gaps front before after back front2 before2 after2 back2 roles guarded guarded2 = elim guarded.left [
    | inl first ↦ elim guarded2.left [
      | inl first2 ↦ inl (ap (λ (cells : List LogicCell). pos (total_width plan kit (cells ++ before))) first ∙ ap (λ (w : ℕ). pos w) widths ∙ sym (ap (λ (cells : List LogicCell). pos (total_width other kit (cells ++ before2))) first2))
      | inr far ↦ both (subst (λ (w : ℕ). reach ≤ℤ pos w) (sym widths) far) far
    ]
    | inr far ↦ both far (subst (λ (w : ℕ). reach ≤ℤ pos w) widths far)
  ] where
    widths : total_width plan kit before ≡ total_width other kit before2
    widths = same_widths plan other kit before before2 roles

    further : (a b c : ℕ) → a ≡ b + c → reach ≤ℤ pos c → reach ≤ℤ pos a
    further a b c e le = omega (arith, ints, e, le)

    both : reach ≤ℤ pos (total_width plan kit before) → reach ≤ℤ pos (total_width other kit before2) → AreGaps reach (pos (total_width plan kit (front ++ before))) (pos (total_width other kit (front2 ++ before2)))
    both p q = inr (further (total_width plan kit (front ++ before)) (total_width plan kit front) (total_width plan kit before) (total_split plan kit front before) p, further (total_width other kit (front2 ++ before2)) (total_width other kit front2) (total_width other kit before2) (total_split other kit front2 before2) q)

  cell_pair : (here there : Zone) → IsMovedZone ex ey here there → AreRowCells reach plan other kit f g here there → Paired here there
  cell_pair here there moved c = record {
    same = same;
    part = LogicRow;
    low_here = ap (λ (z : Zone). z.low) c.here_is;
    high_here = ap (λ (z : Zone). z.high) c.here_is ∙ from_nothing (kit.height Inv);
    low_there = ap (λ (z : Zone). z.low) c.there_is;
    high_there = ap (λ (z : Zone). z.high) c.there_is ∙ from_nothing (kit.height Inv);
    moved = moved;
    end_here = subst (λ (z : Zone). (z.right +ℤ wire.space) ≤ℤ trunk_x plan kit wire f) (sym c.here_is) (before_end plan f c.front c.before c.after c.back c.cell c.parts.here);
    end_there = subst (λ (z : Zone). (z.right +ℤ wire.space) ≤ℤ trunk_x other kit wire g) (sym c.there_is) (before_end other g c.front2 c.before2 c.after2 c.back2 c.cell2 c.parts.there);
    bars = λ h at.
        gap_left reach ex here.left there.left (bar_begin plan kit f h) (bar_begin other kit g h) (pos (total_width plan kit (c.front ++ c.before))) (pos (total_width other kit (c.front2 ++ c.before2)))
        (ap (λ (z : Zone). z.left) c.here_is ∙ ap (λ (x : ℤ). x +ℤ pos (total_width plan kit (c.front ++ c.before))) (sym (logic_begin h at plan kit f)))
        (ap (λ (z : Zone). z.left) c.there_is ∙ ap (λ (x : ℤ). x +ℤ pos (total_width other kit (c.front2 ++ c.before2))) (sym (logic_begin h at other kit g)))
        moved.left (row_gaps c.front c.before c.after c.back c.front2 c.before2 c.after2 c.back2 c.roles c.guarded c.guarded2);
    joiners = λ h has at. absurd (no_joiner h has at);
  } where
    from_nothing : (h : ℕ) → pos h ≡ pos 0 +ℤ pos h
    from_nothing h = omega (arith, ints)

  pub kinds_are_paired : (here there : Zone) → IsMovedZone ex ey here there → AreOfOneKind reach plan other kit f g here there → Paired here there
  kinds_are_paired here there moved (inl c) =
      subst (λ (z : Zone). Paired z there) (sym c.here_is) (subst (λ (z : Zone). Paired (column_zone plan kit f c.bank c.c) z) (sym c.there_is)
      (column_pair c.bank c.c c.d c.below c.edge (subst (IsMovedZone ex ey (column_zone plan kit f c.bank c.c)) c.there_is (subst (λ (z : Zone). IsMovedZone ex ey z there) c.here_is moved))))
  kinds_are_paired here there moved (inr (inl c)) =
      subst (λ (z : Zone). Paired z there) (sym c.here_is) (subst (λ (z : Zone). Paired (front_zone plan kit f c.bank) z) (sym c.there_is)
      (front_pair c.bank c.below c.edge (subst (IsMovedZone ex ey (front_zone plan kit f c.bank)) c.there_is (subst (λ (z : Zone). IsMovedZone ex ey z there) c.here_is moved))))
  kinds_are_paired here there moved (inr (inr (inl c))) =
      subst (λ (z : Zone). Paired z there) (sym c.here_is) (subst (λ (z : Zone). Paired (slice_zone plan kit f c.bank c.i) z) (sym c.there_is)
      (slice_pair c.bank c.i c.j c.below c.edge (subst (IsMovedZone ex ey (slice_zone plan kit f c.bank c.i)) c.there_is (subst (λ (z : Zone). IsMovedZone ex ey z there) c.here_is moved))))
  kinds_are_paired here there moved (inr (inr (inr c))) = cell_pair here there moved c
