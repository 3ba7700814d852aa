-- Two cells of the logic row before the gates of enables are seen in a small memory, and cells whose nets no move changes.
use Rattle.std.proofs.Common.{◌≡◌, ◌⊎◌, inl, inr, ◌∙◌, ℕ, zero, suc, ◌+◌, ◌-◌, ◌*◌, ◌<◌, ◌≤◌, ℤ, pos, ◌+ℤ◌, ◌≤ℤ◌, List, ◌∷◌, ◌++◌, refl, sym, ap, subst, arith}
use Rattle.std.specs.List.{AllByRecursion}
use Rattle.std.proofs.lemmas.Bool.{cases_lt}
use Rattle.std.proofs.lemmas.Int.{ints}
use Rattle.std.proofs.Math.Nat.{add-mul}
use Rattle.cell_roles.specs.declared.role.Role.TheVariants.{Dff, Inv, Nand2, Nand3}
use Rattle.tech_rules.specs.declared.tech.Wire.{Wire}
use Rattle.sram_netlist.specs.Organization.{Organization, inputs_of, addr_bits}
use Rattle.sram_netlist.specs.Instances.{LogicCell, Dd, Dm, Gn, Gi}
use Rattle.sram_netlist.specs.InstanceList.{tabulate_lists, fixed_cells, address_cells, choice_gates, groups_gates, banks_cells}
use Rattle.sram_netlist.specs.Netlist.{logic_role, enables_of, enable_count, gate_of}
use Rattle.sram_netlist.specs.Membership.{IsGated}
use Rattle.macro_layout.specs.LayoutKit.{LayoutKit}
use Rattle.macro_layout.specs.Places.{total_width}
use Rattle.moved_nets.specs.Moved.{Moves}
use Rattle.good_places.specs.Leaves.{ReachesNeighboursOnly}
use Rattle.good_places.specs.Windows.{with_bits}
use Rattle.good_places.proofs.LaidLaws.{written_all}
use Rattle.good_places.proofs.RowLaws.{total_split, same_widths}
use Rattle.good_places.proofs.CellRowLaws.{begin_cells, gate_inputs, same_roles, same_fixed}
use Rattle.small_rows.specs.Few.{IsAmongFew, IsFewBits}
use Rattle.small_rows.specs.Row.{IsCellAt, IsInPart, data_start, banks_start, enables_start, enable_width, pair_width, IsData, IsMask, IsEnable, IsCellThere, AreCellsSeen, AreNearCells}
use Rattle.small_rows.proofs.SteadyLaws.{IsSteady, steady_is, steady_moves, steady_begin, steady_banks, steady_in, one_unit, fewer, last_of}
use Rattle.small_rows.proofs.FewLaws.{among_few, IsFewOf}
use Rattle.small_rows.proofs.RowPlaceLaws.{put_begin, put_data, put_mask, put_banks, put_gate, put_inverter, wide_gate}

module _ (plan : Organization) (kit : LayoutKit) (wire : Wire) (word write masks : ℕ) (reach : ℤ) (words : 0 < plan.word_size) (some : 0 < plan.write_size) (size : IsFewBits plan word write masks) (short : ReachesNeighboursOnly kit wire reach) where
  abbrev other : Organization
  other = with_bits plan word write masks

  abbrev D : ℕ
  D = kit.width Dff

  abbrev P : ℕ
  P = pair_width plan kit

  -- the numbers of both rows
  inputs_here : inputs_of plan ≡ plan.word_size
  inputs_here = written_all plan.write_size plan.word_size some

  inputs_there : inputs_of other ≡ word
  inputs_there = written_all write word size.written

  pub few : IsFewOf (inputs_of plan) (inputs_of other)
  few = by size.few where
    by : ((word ≡ plan.word_size) × (word ≤ 4)) ⊎ ((word ≡ 4) × (4 ≤ plan.word_size)) → IsFewOf (inputs_of plan) (inputs_of other)
    by (inl all) = let a = inputs_here in let b = inputs_there in let c = all.0 in let d = all.1 in inl (omega (arith, a, b, c), omega (arith, b, d))
    by (inr four) = let a = inputs_here in let b = inputs_there in let c = four.0 in let d = four.1 in inr (omega (arith, b, c), omega (arith, a, d))

  pub no_more : (inputs_of other ≤ inputs_of plan) × (1 ≤ inputs_of other)
  no_more = by few where
    by : IsFewOf (inputs_of plan) (inputs_of other) → (inputs_of other ≤ inputs_of plan) × (1 ≤ inputs_of other)
    by (inl all) = let a = all.0 in let b = inputs_here in (omega (arith, a), omega (arith, a, b, words))
    by (inr four) = let a = four.0 in let b = four.1 in (omega (arith, a, b), omega (arith, a))

  same_inputs : (n k l : ℕ) → ((k ≡ 0) × (l ≡ 0)) ⊎ ((2 ≤ k) × (2 ≤ l)) → gate_inputs n k ≡ gate_inputs n l
  same_inputs n k l (inl none) = ap (gate_inputs n) (none.0 ∙ sym none.1)
  same_inputs n k l (inr more) = by n k l more.0 more.1 where
    by : (n k l : ℕ) → 2 ≤ k → 2 ≤ l → gate_inputs n k ≡ gate_inputs n l
    by n zero l a b = absurd (omega (arith, a))
    by n (suc k) zero a b = absurd (omega (arith, b))
    by zero (suc k) (suc l) a b = refl
    by (suc n) (suc k) (suc l) a b = refl

  pub same_gates : gate_inputs plan.bank_bits plan.masks ≡ gate_inputs other.bank_bits other.masks
  same_gates = same_inputs plan.bank_bits plan.masks masks (elim size.masks_are [ inl none ↦ inl none | inr more ↦ inr (more.0, more.1) ])

  pub same_begin : begin_cells plan ≡ begin_cells other
  same_begin = ap (λ (l : List LogicCell). l ++ (tabulate_lists (addr_bits plan) address_cells ++ (choice_gates plan.col_bits ++ groups_gates plan.groups plan.col_bits))) (same_fixed plan.write_size write some size.written)

  pub wide_there : (cells : List LogicCell) → total_width plan kit cells ≡ total_width other kit cells
  wide_there cells = same_widths plan other kit cells cells (same_roles plan other same_gates cells)

  pub start_there : data_start plan kit ≡ data_start other kit
  start_there = wide_there (begin_cells plan) ∙ ap (total_width other kit) same_begin

  pub gate_there : enable_width plan kit ≡ enable_width other kit
  gate_there = ap (λ (n : ℕ). kit.width (gate_of n)) same_gates

  pub pair_there : pair_width plan kit ≡ pair_width other kit
  pair_there = ap (λ (n : ℕ). n + kit.width Inv) gate_there

  pub banks_there : total_width plan kit (banks_cells plan plan.bank_bits) ≡ total_width other kit (banks_cells other other.bank_bits)
  banks_there = wide_there (banks_cells plan plan.bank_bits)

  -- the row begins with a flip-flop and more
  pub start_wide : D ≤ data_start other kit
  start_wide = by write size.written where
    by : (n : ℕ) → 0 < n → D ≤ total_width other kit (fixed_cells n ++ (tabulate_lists (addr_bits plan) address_cells ++ (choice_gates plan.col_bits ++ groups_gates plan.groups plan.col_bits)))
    by zero none = absurd (omega (arith, none))
    by (suc n) is = omega arith

  -- cells there

  abbrev There : Moves → LogicCell → ℕ → ℕ → Type 0
  There v c x x2 = IsCellThere other kit D v c x x2

  abbrev Seen : LogicCell → LogicCell → ℕ → ℕ → Type 0
  Seen c d x y = AreCellsSeen other kit D c d x y

  pub swap : (c d : LogicCell) (x y : ℕ) → Seen d c y x → Seen c d x y
  swap c d x y s = record { moves = s.moves; x2 = s.y2; y2 = s.x2; one = s.two; two = s.one; as_far = sym s.as_far }

  pub begin_there : (v : Moves) (c : LogicCell) (x : ℕ) → IsInPart plan kit (begin_cells plan) 0 c x → There v c x x
  begin_there v c x p =
      let s = steady_in p.before p.after c (subst (AllByRecursion IsSteady) p.row (steady_begin plan)) in
      record {
        one = c;
        at = put_begin other kit c x (record { before = p.before; after = p.after; row = sym same_begin ∙ p.row; at = p.at ∙ ap (λ (n : ℕ). 0 + n) (wide_there p.before) });
        as_mask = steady_moves v c s;
        is = steady_is v c s;
        left = inl refl;
      }

  pub data_there : (v : Moves) (c : LogicCell) (x i : ℕ) (d : IsData plan kit c x) → d.i ≡ i + v.k → i < inputs_of other → There v c x (data_start other kit + i * D)
  data_there v c x i d sum lt = record { one = Dd i; at = put_data other kit i lt; as_mask = tt; is = d.is ∙ ap Dd sum; left = let w = start_wide in inr (omega (arith, w)) }

  pub mask_there : (v : Moves) (c : LogicCell) (x m : ℕ) (d : IsMask plan kit c x) → v.mask m ≡ d.m → m < other.masks → There v c x (data_start other kit + (inputs_of other + m) * D)
  mask_there v c x m d is lt = record { one = Dm m; at = put_mask other kit m lt; as_mask = tt; is = d.is ∙ ap Dm (sym is); left = let w = start_wide in inr (omega (arith, w)) }

  banks_cell_there : (v : Moves) (c : LogicCell) (x : ℕ) (p : IsInPart plan kit (banks_cells plan plan.bank_bits) (banks_start plan kit) c x) → There v c x (banks_start other kit + total_width plan kit p.before)
  banks_cell_there v c x p =
      let s = steady_in p.before p.after c (subst (AllByRecursion IsSteady) p.row (steady_banks plan plan.bank_bits)) in
      record {
        one = c;
        at = put_banks other kit c (banks_start other kit + total_width plan kit p.before) (record { before = p.before; after = p.after; row = p.row; at = ap (λ (n : ℕ). banks_start other kit + n) (wide_there p.before) });
        as_mask = steady_moves v c s;
        is = steady_is v c s;
        left = let w = start_wide in inr (omega (arith, w));
      }

  pub gated_there : IsGated plan → IsGated other
  gated_there (inl banks) = inl banks
  gated_there (inr more) = by size.masks_are where
    by : ((plan.masks ≡ 0) × (masks ≡ 0)) ⊎ ((2 ≤ plan.masks) × (2 ≤ masks) × (write ≡ 1) × (masks ≡ word)) → IsGated other
    by (inl none) = let z = none.0 in absurd (omega (arith, more, z))
    by (inr two) = let t = two.1 in inr (omega (arith, t))

  abbrev enable_x : ℕ → ℕ → ℕ → ℕ
  enable_x b m off = enables_start other kit + ((b * enables_of other + m) * pair_width other kit + off)

  pub enable_there : (v : Moves) (c : LogicCell) (x m : ℕ) (e : IsEnable plan kit c x) → v.of_bank e.b m ≡ e.m → v.mask m ≡ e.m → m < enables_of other → There v c x (enable_x e.b m e.off)
  enable_there v c x m e of mask lt = by e.kind where
    wide : D ≤ enable_x e.b m e.off
    wide = let w = start_wide in omega (arith, w)

    by : ((c ≡ Gn e.b e.m) × (e.off ≡ 0)) ⊎ ((c ≡ Gi e.b e.m) × (e.off ≡ enable_width plan kit)) → There v c x (enable_x e.b m e.off)
    by (inl gate) = record {
      one = Gn e.b m;
      at = subst (λ (o : ℕ). IsCellAt other kit (Gn e.b m) (enable_x e.b m o)) (sym gate.1) (put_gate other kit e.b m e.less_b lt (gated_there e.gated));
      as_mask = of ∙ sym mask;
      is = gate.0 ∙ ap (Gn e.b) (sym of);
      left = inr wide;
    }
    by (inr inverter) = record { one = Gi e.b m; at = put_inverter other kit e.b m e.off (inverter.1 ∙ gate_there) e.less_b lt (gated_there e.gated); as_mask = tt; is = inverter.0 ∙ ap (Gi e.b) (sym of); left = inr wide }

  -- where cells end

  abbrev width : LogicCell → ℕ
  width c = kit.width (logic_role plan c)

  pub part_ends : (part : List LogicCell) (start : ℕ) (c : LogicCell) (x : ℕ) → IsInPart plan kit part start c x → x + width c ≤ start + total_width plan kit part
  part_ends part start c x p = let a = ap (total_width plan kit) p.row ∙ total_split plan kit p.before (c ∷ p.after) in let b = p.at in omega (arith, a, b)

  pub data_wide : (c : LogicCell) (x : ℕ) → IsData plan kit c x → width c ≡ D
  data_wide c x d = ap width d.is

  pub mask_wide : (c : LogicCell) (x : ℕ) → IsMask plan kit c x → width c ≡ D
  mask_wide c x d = ap width d.is

  gate_wide : (b m : ℕ) → width (Gn b m) ≡ enable_width plan kit
  gate_wide b m = wide_gate plan kit b m

  pub enable_ends : (c : LogicCell) (x : ℕ) (e : IsEnable plan kit c x) → e.off + width c ≤ P
  enable_ends c x e = by e.kind where
    by : ((c ≡ Gn e.b e.m) × (e.off ≡ 0)) ⊎ ((c ≡ Gi e.b e.m) × (e.off ≡ enable_width plan kit)) → e.off + width c ≤ P
    by (inl gate) = let a = gate.1 in let b = ap width gate.0 ∙ gate_wide e.b e.m in omega (arith, a, b)
    by (inr inverter) = let a = inverter.1 in let b : width c ≡ kit.width Inv = ap width inverter.0 in omega (arith, a, b)

  pub wide_pair : 2 ≤ plan.masks → reach ≤ℤ pos P
  wide_pair two = by plan.bank_bits plan.masks two where
    together : (r : ℤ) (i w : ℕ) → r ≤ℤ (pos i +ℤ pos w) → r ≤ℤ pos (w + i)
    together r i w le = omega (arith, ints, le)

    by : (n k : ℕ) → 2 ≤ k → reach ≤ℤ pos (kit.width (gate_of (gate_inputs n k)) + kit.width Inv)
    by n zero two = absurd (omega (arith, two))
    by zero (suc k) two = together reach (kit.width Inv) (kit.width Nand2) short.nand2
    by (suc n) (suc k) two = together reach (kit.width Inv) (kit.width Nand3) short.nand3

  -- so many masks here and there
  abbrev Masks : Type 0
  Masks = ((plan.masks ≡ 0) × (masks ≡ 0)) ⊎ ((2 ≤ plan.masks) × (2 ≤ masks) × (write ≡ 1) × (masks ≡ word))

  pub enables_here : enables_of plan ≡ enable_count plan.masks
  enables_here = written_all plan.write_size (enable_count plan.masks) some

  pub enables_there : enables_of other ≡ enable_count masks
  enables_there = written_all write (enable_count masks) size.written

  pub one_enable : (m : ℕ) → m ≡ 0 → enable_count m ≡ 1
  one_enable m none = ap enable_count none

  pub each_enable : (m : ℕ) → 2 ≤ m → enable_count m ≡ m
  each_enable zero two = absurd (omega (arith, two))
  each_enable (suc m) two = refl

  -- moved by all slices that the other memory has less
  abbrev gap : ℕ
  gap = inputs_of plan - inputs_of other

  pub gap_is : inputs_of plan ≡ inputs_of other + gap
  gap_is = let a = no_more.0 in omega (arith, a)

  pub last_sum : (i : ℕ) → i < inputs_of plan → inputs_of plan < i + 2 → i ≡ (inputs_of other - 1) + gap
  last_sum i lt le = let a = no_more.0 in let b = no_more.1 in omega (arith, a, b, lt, le)

  pub last_less : inputs_of other - 1 < inputs_of other
  last_less = let b = no_more.1 in omega (arith, b)

  abbrev same_moves : ℕ → Moves
  same_moves k = record { k = k; mask = λ m. m; of_bank = λ b m. m }

  abbrev last_moves : Moves
  last_moves = record { k = gap; mask = last_of plan.masks; of_bank = λ b. last_of plan.masks }

  abbrev shift_moves : ℕ → Moves
  shift_moves a = record { k = gap; mask = λ m. m + a; of_bank = λ b m. m + a }

  -- how far apart: units of one length, as many more or less there, and the same behind them
  pub far : (s t i j i2 j2 l m d p r x y x2 y2 : ℕ) → x ≡ s + (i * d + p) → y ≡ s + (j * d + r) → x2 ≡ t + (i2 * d + p) → y2 ≡ t + (j2 * d + r) → i + l ≡ i2 + m → j + l ≡ j2 + m → x2 + y ≡ y2 + x
  far s t i j i2 j2 l m d p r x y x2 y2 a b c e q w =
      let u = sym (add-mul i l d) ∙ (ap (λ (n : ℕ). n * d) q ∙ add-mul i2 m d) in
      let v = sym (add-mul j l d) ∙ (ap (λ (n : ℕ). n * d) w ∙ add-mul j2 m d) in
      omega (arith, a, b, c, e, u, v)

  pub plain : (i j : ℕ) → i ≡ j → i + 0 ≡ j
  plain i j e = omega (arith, e)

  pub none_behind : (s n x : ℕ) → x ≡ s + n → x ≡ s + (n + 0)
  none_behind s n x e = omega (arith, e)

  abbrev Near : LogicCell → LogicCell → ℕ → ℕ → Type 0
  Near c d x y = AreNearCells reach (width c) (width d) x y

  pub turn : (c d : LogicCell) (x y : ℕ) → Near c d x y → Near d c y x
  turn c d x y n = record { before = n.behind; behind = n.before }

  -- Two data bits
  data_up : (c d : LogicCell) (x y : ℕ) (a : IsData plan kit c x) (b : IsData plan kit d y) → (b.i ≡ a.i) ⊎ (b.i ≡ a.i + 1) → Seen c d x y
  data_up c d x y a b next =
      let q = among_few (inputs_of plan) (inputs_of other) a.i a.less few in
      let k = q.1 in
      by q.0 k next
    where
      put : (m i j : ℕ) → a.i ≡ i + m → b.i ≡ j + m → i < inputs_of other → j < inputs_of other → Seen c d x y
      put m i j p r li lj = record {
        moves = same_moves m;
        x2 = data_start other kit + i * D;
        y2 = data_start other kit + j * D;
        one = data_there (same_moves m) c x i a p li;
        two = data_there (same_moves m) d y j b r lj;
        as_far = far (data_start plan kit) (data_start other kit) a.i b.i i j 0 m D 0 0 x y (data_start other kit + i * D) (data_start other kit + j * D) (none_behind _ _ x a.at) (none_behind _ _ y b.at) (none_behind _ _ _ refl) (none_behind _ _ _ refl) (plain _ _ p) (plain _ _ r);
      }

      by : (m : ℕ) (k : IsAmongFew (inputs_of plan) (inputs_of other) a.i m) → (b.i ≡ a.i) ⊎ (b.i ≡ a.i + 1) → Seen c d x y
      by m k (inl same) = put m k.d k.d k.sum (same ∙ k.sum) k.inside k.inside
      by m k (inr more) = let e = k.sum in let l = b.less in put m k.d (k.d + 1) e (omega (arith, e, more)) k.inside (k.next (omega (arith, l, more)))

  -- how many units of a flip-flop
  pub units : (s i j r w x y : ℕ) → x ≡ s + i * D → y ≡ s + (j * D + r) → w ≡ D → y < (x + w) + D → j < i + 2
  units s i j r w x y a b e lt = fewer j i D (omega (arith, a, b, e, lt))

  pub data_data : (c d : LogicCell) (x y : ℕ) → IsData plan kit c x → IsData plan kit d y → Near c d x y → Seen c d x y
  data_data c d x y a b n =
      let up = units (data_start plan kit) a.i b.i 0 (width c) x y a.at (none_behind _ _ y b.at) (data_wide c x a) (n.before D short.dff) in
      let down = units (data_start plan kit) b.i a.i 0 (width d) y x b.at (none_behind _ _ x a.at) (data_wide d y b) (n.behind D short.dff) in
      elim (cases_lt b.i a.i) [
        | inl before ↦ swap c d x y (data_up d c y x b a (inr (omega (arith, before, down))))
        | inr from ↦ data_up c d x y a b (which a.i b.i from up)
      ]
    where
      which : (i j : ℕ) → i ≤ j → j < i + 2 → (j ≡ i) ⊎ (j ≡ i + 1)
      which i j le lt = elim (cases_lt i j) [ inl less ↦ inr (omega (arith, less, lt)) | inr ge ↦ inl (omega (arith, le, ge)) ]

  -- The last data bit and the first mask
  pub data_mask : (c d : LogicCell) (x y : ℕ) → IsData plan kit c x → IsMask plan kit d y → Near c d x y → Seen c d x y
  data_mask c d x y a b n =
      let up = units (data_start plan kit) a.i (inputs_of plan + b.m) 0 (width c) x y a.at (none_behind _ _ y b.at) (data_wide c x a) (n.before D short.dff) in
      let l = a.less in
      let z : 0 ≡ b.m = omega (arith, up, l) in
      let sum = last_sum a.i l (omega (arith, up)) in
      let g = gap_is in
      record {
        moves = same_moves gap;
        x2 = data_start other kit + (inputs_of other - 1) * D;
        y2 = data_start other kit + (inputs_of other + 0) * D;
        one = data_there (same_moves gap) c x (inputs_of other - 1) a sum last_less;
        two = mask_there (same_moves gap) d y 0 b z (masked size.masks_are b.less);
        as_far = far (data_start plan kit) (data_start other kit) a.i (inputs_of plan + b.m) (inputs_of other - 1) (inputs_of other + 0) 0 gap D 0 0 x y _ _ (none_behind _ _ x a.at) (none_behind _ _ y b.at) (none_behind _ _ _ refl) (none_behind _ _ _ refl) (plain _ _ sum) (omega (arith, z, g));
      }
    where
      masked : Masks → b.m < plan.masks → 0 < masks
      masked (inl none) lt = let z = none.0 in absurd (omega (arith, z, lt))
      masked (inr more) lt = let t = more.1 in omega (arith, t)

  -- what stands at the beginning
  pub begin_begin : (c d : LogicCell) (x y : ℕ) → IsInPart plan kit (begin_cells plan) 0 c x → IsInPart plan kit (begin_cells plan) 0 d y → Seen c d x y
  begin_begin c d x y a b = record { moves = same_moves 0; x2 = x; y2 = y; one = begin_there (same_moves 0) c x a; two = begin_there (same_moves 0) d y b; as_far = omega arith }

  -- nothing behind the first flip-flop is near to it
  pub begin_unit : (c : LogicCell) (x y w j r : ℕ) → IsInPart plan kit (begin_cells plan) 0 c x → y ≡ data_start plan kit + (j * D + r) → w ≡ width c → y < (x + w) + D → 1 ≤ j → ⊥
  begin_unit c x y w j r a is e lt one = let p = part_ends (begin_cells plan) 0 c x a in let u = one_unit j D one in omega (arith, p, is, e, lt, u)

  pub begin_data : (c d : LogicCell) (x y : ℕ) → IsInPart plan kit (begin_cells plan) 0 c x → IsData plan kit d y → Near c d x y → Seen c d x y
  begin_data c d x y a b n = elim (cases_lt 0 b.i) [
    | inl one ↦ absurd (begin_unit c x y (width c) b.i 0 a (none_behind _ _ y b.at) refl (n.before D short.dff) one)
    | inr none ↦
        let z : b.i ≡ 0 + 0 = omega (arith, none) in
        let t = start_there in
        let s = no_more.1 in
        let u : b.i * D ≡ 0 * D = ap (λ (k : ℕ). k * D) (omega (arith, none)) in
        let at = b.at in
        record {
          moves = same_moves 0;
          x2 = x;
          y2 = data_start other kit + 0 * D;
          one = begin_there (same_moves 0) c x a;
          two = data_there (same_moves 0) d y 0 b z (omega (arith, s));
          as_far = omega (arith, at, t, u);
        }
  ]

  pub inputs_some : 1 ≤ inputs_of plan
  inputs_some = let e = inputs_here in omega (arith, e, words)

  pub begin_mask : (c d : LogicCell) (x y : ℕ) → IsInPart plan kit (begin_cells plan) 0 c x → IsMask plan kit d y → Near c d x y → Seen c d x y
  begin_mask c d x y a b n = let s = inputs_some in absurd (begin_unit c x y (width c) (inputs_of plan + b.m) 0 a (none_behind _ _ y b.at) refl (n.before D short.dff) (omega (arith, s)))

  -- cells behind all flip-flops, so far behind them
  abbrev IsLate : ℕ → ℕ → Type 0
  IsLate x r = x ≡ data_start plan kit + ((inputs_of plan + plan.masks) * D + r)

  abbrev Banks : LogicCell → ℕ → Type 0
  Banks c x = IsInPart plan kit (banks_cells plan plan.bank_bits) (banks_start plan kit) c x

  pub banks_late : (c : LogicCell) (x : ℕ) (p : Banks c x) → IsLate x (total_width plan kit p.before)
  banks_late c x p = let e = p.at in omega (arith, e)

  abbrev enable_r : (c : LogicCell) (x : ℕ) → IsEnable plan kit c x → ℕ
  enable_r c x e = total_width plan kit (banks_cells plan plan.bank_bits) + ((e.b * enables_of plan + e.m) * pair_width plan kit + e.off)

  pub enable_late : (c : LogicCell) (x : ℕ) (e : IsEnable plan kit c x) → IsLate x (enable_r c x e)
  enable_late c x e = let a = e.at in omega (arith, a)

  pub begin_late : (c d : LogicCell) (x y r : ℕ) → IsInPart plan kit (begin_cells plan) 0 c x → IsLate y r → Near c d x y → Seen c d x y
  begin_late c d x y r a b n = let s = inputs_some in absurd (begin_unit c x y (width c) (inputs_of plan + plan.masks) r a b refl (n.before D short.dff) (omega (arith, s)))

  -- one that stands behind them there, as far
  pub record IsLateThere (v : Moves) (c : LogicCell) (x r : ℕ) : Type 0 where
    pub x2 : ℕ
    pub is : There v c x x2
    pub at : x2 ≡ data_start other kit + ((inputs_of other + masks) * D + r)

  pub banks_late_there : (v : Moves) (c : LogicCell) (x : ℕ) (p : Banks c x) → IsLateThere v c x (total_width plan kit p.before)
  banks_late_there v c x p = record { x2 = banks_start other kit + total_width plan kit p.before; is = banks_cell_there v c x p; at = omega arith }

  pub enable_late_there : (v : Moves) (c : LogicCell) (x m : ℕ) (e : IsEnable plan kit c x) → v.of_bank e.b m ≡ e.m → v.mask m ≡ e.m → m < enables_of other → e.b * enables_of plan + e.m ≡ e.b * enables_of other + m → IsLateThere v c x (enable_r c x e)
  enable_late_there v c x m e of mask lt same = record { x2 = enable_x e.b m e.off; is = enable_there v c x m e of mask lt; at = by } where
    by : enable_x e.b m e.off ≡ data_start other kit + ((inputs_of other + masks) * D + enable_r c x e)
    by =
        let k = banks_there in
        let u : (e.b * enables_of plan + e.m) * pair_width plan kit ≡ (e.b * enables_of other + m) * pair_width other kit = ap (λ (n : ℕ). n * pair_width plan kit) same ∙ ap (λ (n : ℕ). (e.b * enables_of other + m) * n) pair_there in
        omega (arith, k, u)

  pub late_late : (v : Moves) (c d : LogicCell) (x y r q : ℕ) → IsLate x r → IsLate y q → IsLateThere v c x r → IsLateThere v d y q → Seen c d x y
  late_late v c d x y r q e f s t = record { moves = v; x2 = s.x2; y2 = t.x2; one = s.is; two = t.is; as_far = let g = s.at in let h = t.at in omega (arith, e, f, g, h) }
