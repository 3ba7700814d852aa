-- Runs that begin at the last flip-flop of a data bit.
use Rattle.std.proofs.Common.{◌≡◌, ◌⊎◌, inl, inr, ◌∙◌, ℕ, ◌+◌, ◌-◌, ◌*◌, ◌<◌, ◌≤◌, ℤ, refl, sym, ap, arith}
use Rattle.std.proofs.lemmas.Bool.{cases_lt}
use Rattle.cell_roles.specs.declared.role.Role.TheVariants.{Dff}
use Rattle.tech_rules.specs.declared.tech.Wire.{Wire}
use Rattle.sram_netlist.specs.Organization.{Organization, inputs_of}
use Rattle.sram_netlist.specs.Instances.{LogicCell, Dd, Dm}
use Rattle.sram_netlist.specs.InstanceList.{banks_cells}
use Rattle.sram_netlist.specs.Netlist.{logic_role, enables_of}
use Rattle.macro_layout.specs.LayoutKit.{LayoutKit}
use Rattle.macro_layout.specs.Places.{total_width}
use Rattle.moved_nets.specs.Moved.{Moves}
use Rattle.good_places.specs.Leaves.{ReachesNeighboursOnly}
use Rattle.good_places.specs.Windows.{with_bits}
use Rattle.good_places.proofs.CellRowLaws.{begin_cells}
use Rattle.small_rows.specs.Few.{IsFewBits}
use Rattle.small_rows.specs.Row.{IsInPart, data_start, banks_start, pair_width, IsData, IsMask, IsEnable, IsInRow, IsCellThere}
use Rattle.small_rows.proofs.SteadyLaws.{one_unit}
use Rattle.small_rows.proofs.RowPlaceLaws.{place_is, put_data, put_mask}
use Rattle.small_rows.proofs.InputPairLaws as first
use Rattle.small_rows.proofs.EnablePairLaws as second
use Rattle.row_runs.specs.Run.{IsNearBehind, IsForth, IsBack, IsCellRun}
use Rattle.row_runs.proofs.BackLaws as back
use Rattle.row_runs.proofs.DataRunLaws as data_runs
use Rattle.row_runs.proofs.BackLaws.{no_less}

module _ (plan : Organization) (kit : LayoutKit) (wire : Wire) (word write masks : ℕ) (reach : ℤ) (words : 0 < plan.word_size) (some : 0 < plan.write_size) (size : IsFewBits plan word write masks) (short : ReachesNeighboursOnly kit wire reach) (drawn : (c : LogicCell) → 1 ≤ kit.width (logic_role plan c)) where
  abbrev other : Organization
  other = with_bits plan word write masks

  abbrev D : ℕ
  D = kit.width Dff

  abbrev S : ℕ
  S = data_start plan kit

  abbrev S' : ℕ
  S' = data_start other kit

  abbrev N : ℕ
  N = inputs_of plan

  abbrev N' : ℕ
  N' = inputs_of other

  abbrev width : LogicCell → ℕ
  width c = kit.width (logic_role plan c)

  abbrev Forth : Moves → LogicCell → ℕ → ℕ → ℕ → Type 0
  Forth v d y x x2 = IsForth other kit D v d y x x2

  abbrev Back : LogicCell → ℕ → ℕ → ℕ → Type 0
  Back e z x x2 = IsBack plan other kit e z x x2

  abbrev Banks : LogicCell → ℕ → Type 0
  Banks c x = IsInPart plan kit (banks_cells plan plan.bank_bits) (banks_start plan kit) c x

  abbrev BanksThere : LogicCell → ℕ → Type 0
  BanksThere e z = IsInPart other kit (banks_cells other other.bank_bits) (banks_start other kit) e z

  abbrev Run : LogicCell → ℕ → Type 0
  Run c x = IsCellRun plan other kit reach D c x

  abbrev gap : ℕ
  gap = N - N'

  abbrev gap_is : N ≡ N' + gap
  gap_is = first.gap_is plan kit wire word write masks reach words some size short

  abbrev same_moves : ℕ → Moves
  same_moves k = record { k = k; mask = λ m. m; of_bank = λ b m. m }

  abbrev start_there : S ≡ S'
  start_there = first.start_there plan kit wire word write masks reach words some size short

  abbrev no_more : (N' ≤ N) × (1 ≤ N')
  no_more = first.no_more plan kit wire word write masks reach words some size short

  abbrev data_there : (v : Moves) (c : LogicCell) (x i : ℕ) (d : IsData plan kit c x) → d.i ≡ i + v.k → i < N' → IsCellThere other kit D v c x (S' + i * D)
  data_there = first.data_there plan kit wire word write masks reach words some size short

  abbrev far : (s t i j i2 j2 l m d p r x y x2 y2 : ℕ) → x ≡ s + (i * d + p) → y ≡ s + (j * d + r) → x2 ≡ t + (i2 * d + p) → y2 ≡ t + (j2 * d + r) → i + l ≡ i2 + m → j + l ≡ j2 + m → x2 + y ≡ y2 + x
  far = first.far plan kit wire word write masks reach words some size short

  abbrev plain : (i j : ℕ) → i ≡ j → i + 0 ≡ j
  plain = first.plain plan kit wire word write masks reach words some size short

  abbrev none_behind : (s n x : ℕ) → x ≡ s + n → x ≡ s + (n + 0)
  none_behind = first.none_behind plan kit wire word write masks reach words some size short

  abbrev units : (s i j r w x y : ℕ) → x ≡ s + i * D → y ≡ s + (j * D + r) → w ≡ D → y < (x + w) + D → j < i + 2
  units = first.units plan kit wire word write masks reach words some size short

  abbrev P : ℕ
  P = pair_width plan kit

  abbrev M : ℕ
  M = plan.masks

  abbrev mask_there : (v : Moves) (c : LogicCell) (x m : ℕ) (d : IsMask plan kit c x) → v.mask m ≡ d.m → m < masks → IsCellThere other kit D v c x (S' + (N' + m) * D)
  mask_there = first.mask_there plan kit wire word write masks reach words some size short

  abbrev IsLateThere : (v : Moves) (c : LogicCell) (x r : ℕ) → Type 0
  IsLateThere = first.IsLateThere plan kit wire word write masks reach words some size short

  abbrev IsLateBack : (e : LogicCell) (r : ℕ) → Type 0
  IsLateBack = back.IsLateBack plan kit wire word write masks reach words some size short

  abbrev banks_late_there : (v : Moves) (c : LogicCell) (x : ℕ) (p : Banks c x) → IsLateThere v c x (total_width plan kit p.before)
  banks_late_there = first.banks_late_there plan kit wire word write masks reach words some size short

  abbrev enable_r : ℕ → ℕ → ℕ → ℕ
  enable_r b m off = total_width plan kit (banks_cells plan plan.bank_bits) + ((b * enables_of plan + m) * P + off)

  abbrev enable_r_there : ℕ → ℕ → ℕ → ℕ
  enable_r_there b m off = total_width other kit (banks_cells other other.bank_bits) + ((b * enables_of other + m) * pair_width other kit + off)

  abbrev plain_enable : (d : LogicCell) (y : ℕ) (b : IsEnable plan kit d y) → M ≡ 0 → masks ≡ 0 → IsLateThere (same_moves gap) d y (enable_r b.b b.m b.off)
  plain_enable = second.plain_enable plan kit wire word write masks reach words some size short

  abbrev banks_late : (d : LogicCell) (y : ℕ) (p : Banks d y) → y ≡ S + ((N + M) * D + total_width plan kit p.before)
  banks_late = first.banks_late plan kit wire word write masks reach words some size short

  enable_late : (d : LogicCell) (y : ℕ) (p : IsEnable plan kit d y) → y ≡ S + ((N + M) * D + enable_r p.b p.m p.off)
  enable_late d y p = let a = p.at in omega (arith, a)

  banks_late_in : (e : LogicCell) (z : ℕ) (p : BanksThere e z) → z ≡ S' + ((N' + masks) * D + total_width other kit p.before)
  banks_late_in e z p = let a = p.at in omega (arith, a)

  enable_late_in : (e : LogicCell) (z : ℕ) (p : IsEnable other kit e z) → z ≡ S' + ((N' + masks) * D + enable_r_there p.b p.m p.off)
  enable_late_in e z p = let a = p.at in omega (arith, a)

  some_dff : 1 ≤ D
  some_dff = drawn (Dd 0)

  -- Masks are none in both, or at least two
  abbrev Masks : Type 0
  Masks = ((M ≡ 0) × (masks ≡ 0)) ⊎ ((2 ≤ M) × (2 ≤ masks) × (write ≡ 1) × (masks ≡ word))

  pub none_there : Masks → M ≡ 0 → masks ≡ 0
  none_there (inl none) z = none.1
  none_there (inr more) z = let t = more.0 in absurd (omega (arith, t, z))

  pub none_here : Masks → masks ≡ 0 → M ≡ 0
  none_here (inl none) z = none.0
  none_here (inr more) z = let t = more.1 in absurd (omega (arith, t, z))

  pub two_masks : Masks → (m : ℕ) → m < M → (2 ≤ M) × (2 ≤ masks)
  two_masks (inl none) m lt = let z = none.0 in absurd (omega (arith, z, lt))
  two_masks (inr more) m lt = (more.0, more.1)

  two_from : Masks → (m : ℕ) → m < masks → (2 ≤ M) × (2 ≤ masks)
  two_from (inl none) m lt = let z = none.1 in absurd (omega (arith, z, lt))
  two_from (inr more) m lt = (more.0, more.1)

  begin_before : (d : LogicCell) (x y r : ℕ) → IsInPart plan kit (begin_cells plan) 0 d y → x ≡ S + r → x ≤ y → ⊥
  begin_before = data_runs.begin_before plan kit wire word write masks reach words some size short drawn

  begin_before_there : (e : LogicCell) (x z r : ℕ) → IsInPart other kit (begin_cells other) 0 e z → x ≡ S' + r → x ≤ z → ⊥
  begin_before_there = data_runs.begin_before_there plan kit wire word write masks reach words some size short drawn

  -- so many enables here and there
  enables_plain : M ≡ 0 → masks ≡ 0 → (enables_of plan ≡ 1) × (enables_of other ≡ 1)
  enables_plain here there = (
    first.enables_here plan kit wire word write masks reach words some size short ∙ first.one_enable plan kit wire word write masks reach words some size short M here,
    first.enables_there plan kit wire word write masks reach words some size short ∙ first.one_enable plan kit wire word write masks reach words some size short masks there,
  )

  pub plain_back : (e : LogicCell) (z : ℕ) (p : IsEnable other kit e z) → M ≡ 0 → masks ≡ 0 → IsLateBack e (enable_r_there p.b p.m p.off)
  plain_back e z p here there =
      let k = enables_plain here there in
      let l = p.less in
      let q = k.0 in
      let r = k.1 in
      back.enable_late_back plan kit wire word write masks reach words some size short e z p p.m (omega (arith, q, r, l)) (ap (λ (n : ℕ). p.b * n + p.m) (q ∙ sym r))

  zero_of : (b e m : ℕ) → b * e + m ≡ 0 → m < e → b ≡ 0
  zero_of b e m none lt = elim (cases_lt 0 b) [
    | inl more ↦ let u = one_unit b e more in absurd (omega (arith, u, none, lt))
    | inr ge ↦ omega (arith, ge)
  ]

  pub first_back : (e : LogicCell) (z : ℕ) (p : IsEnable other kit e z) → 2 ≤ M → p.b * enables_of other + p.m ≡ 0 → IsLateBack e (enable_r_there p.b p.m p.off)
  first_back e z p two none =
      let q : enables_of plan ≡ M = first.enables_here plan kit wire word write masks reach words some size short ∙ first.each_enable plan kit wire word write masks reach words some size short M two in
      let b0 = zero_of p.b (enables_of other) p.m none p.less in
      back.enable_late_back plan kit wire word write masks reach words some size short e z p 0 (omega (arith, q, two)) (ap (λ (n : ℕ). n * enables_of plan + 0) b0 ∙ (nothing (enables_of plan) ∙ sym none))
    where
      nothing : (e : ℕ) → 0 * e + 0 ≡ 0
      nothing e = omega arith

  -- A run whose first cell stands behind j units and r0, and there behind j2: what stands behind all flip-flops
  module _ (c : LogicCell) (x x2 j j2 l m r0 : ℕ) (x_is : x ≡ S + (j * D + r0)) (x2_is : x2 ≡ S' + (j2 * D + r0)) (e1 : j + l ≡ j2 + m) (e2 : (N + M) + l ≡ (N' + masks) + m) where
    pub late_to : (v : Moves) (d : LogicCell) (y r : ℕ) → y ≡ S + ((N + M) * D + r) → IsLateThere v d y r → Forth v d y x x2
    late_to v d y r late t = record { y2 = t.x2; is = t.is; far = far S S' j (N + M) j2 (N' + masks) l m D r0 r x y x2 t.x2 x_is late x2_is t.at e1 e2 }

    pub late_from : (e : LogicCell) (z r : ℕ) → z ≡ S' + ((N' + masks) * D + r) → IsLateBack e r → Back e z x x2
    late_from e z r late b = record { d = b.d; y = b.y; at = b.at; role = b.role; far = far S S' j (N + M) j2 (N' + masks) l m D r0 r x b.y x2 z x_is b.late x2_is late e1 e2 }

  -- The last data bit

  module _ (c : LogicCell) (x : ℕ) (a : IsData plan kit c x) (last : a.i + 1 ≡ N) where
    abbrev x2_data : ℕ
    x2_data = S' + (N' - 1) * D

    sum_data : a.i ≡ (N' - 1) + gap
    sum_data = first.last_sum plan kit wire word write masks reach words some size short a.i a.less (omega (arith, last))

    data_up : (y j r : ℕ) → y ≡ S + (j * D + r) → IsNearBehind reach (width c) x y → j < a.i + 2
    data_up y j r is near = units S a.i j r (width c) x y a.at is (ap width a.is) (near D short.dff)

    data_up_there : (z j r : ℕ) → z ≡ S' + (j * D + r) → IsNearBehind reach (width c) x2_data z → j < (N' - 1) + 2
    data_up_there z j r is near = units S' (N' - 1) j r (width c) x2_data z refl is (ap width a.is) (near D short.dff)

    data_none : (y r : ℕ) → y ≡ S + ((N + M) * D + r) → IsNearBehind reach (width c) x y → M ≡ 0
    data_none y r is near = let u = data_up y (N + M) r is near in omega (arith, u, last)

    data_none_there : (z r : ℕ) → z ≡ S' + ((N' + masks) * D + r) → IsNearBehind reach (width c) x2_data z → masks ≡ 0
    data_none_there z r is near = let u = data_up_there z (N' + masks) r is near in let s = no_more.1 in omega (arith, u, s)

    data_late : (v : Moves) (d : LogicCell) (y r : ℕ) → y ≡ S + ((N + M) * D + r) → M ≡ 0 → masks ≡ 0 → IsLateThere v d y r → Forth v d y x x2_data
    data_late v d y r late here there t = late_to c x x2_data a.i (N' - 1) 0 gap 0 (none_behind _ _ x a.at) (none_behind _ _ _ refl) (plain _ _ sum_data) (let g = gap_is in omega (arith, g, here, there)) v d y r late t

    data_forth : (d : LogicCell) (y : ℕ) → IsInRow plan kit d y → x ≤ y → IsNearBehind reach (width c) x y → Forth (same_moves gap) d y x x2_data
    data_forth d y (inl b) le near = absurd (begin_before d x y (a.i * D) b a.at le)
    data_forth d y (inr (inl b)) le near =
        let l = no_less S a.i b.i D 0 y (none_behind _ _ y b.at) (let w = some_dff in omega (arith, w)) (let e = a.at in omega (arith, e, le)) in
        let bl = b.less in
        let s = sum_data in
        let n1 = no_more.1 in
        let same : b.i ≡ (N' - 1) + gap = omega (arith, l, bl, last, s) in
        record {
          y2 = x2_data;
          is = data_there (same_moves gap) d y (N' - 1) b same (omega (arith, n1));
          far = far S S' a.i b.i (N' - 1) (N' - 1) 0 gap D 0 0 x y x2_data x2_data (none_behind _ _ x a.at) (none_behind _ _ y b.at) (none_behind _ _ _ refl) (none_behind _ _ _ refl) (plain _ _ s) (plain _ _ same);
        }
    data_forth d y (inr (inr (inl b))) le near =
        let u = data_up y (N + b.m) 0 (none_behind _ _ y b.at) near in
        let z : b.m ≡ 0 = omega (arith, u, last) in
        let two = (two_masks size.masks_are b.m b.less).1 in
        let g = gap_is in
        record {
          y2 = S' + (N' + 0) * D;
          is = mask_there (same_moves gap) d y 0 b (sym z) (omega (arith, two));
          far = far S S' a.i (N + b.m) (N' - 1) (N' + 0) 0 gap D 0 0 x y x2_data (S' + (N' + 0) * D) (none_behind _ _ x a.at) (none_behind _ _ y b.at) (none_behind _ _ _ refl) (none_behind _ _ _ refl) (plain _ _ sum_data) (omega (arith, z, g));
        }
    data_forth d y (inr (inr (inr (inl b)))) le near =
        let here = data_none y (total_width plan kit b.before) (banks_late d y b) near in
        data_late (same_moves gap) d y (total_width plan kit b.before) (banks_late d y b) here (none_there size.masks_are here) (banks_late_there (same_moves gap) d y b)
    data_forth d y (inr (inr (inr (inr b)))) le near =
        let here = data_none y (enable_r b.b b.m b.off) (enable_late d y b) near in
        let there = none_there size.masks_are here in
        data_late (same_moves gap) d y (enable_r b.b b.m b.off) (enable_late d y b) here there (plain_enable d y b here there)

    data_from : (e : LogicCell) (z r : ℕ) → z ≡ S' + ((N' + masks) * D + r) → M ≡ 0 → masks ≡ 0 → IsLateBack e r → Back e z x x2_data
    data_from e z r late here there b = late_from c x x2_data a.i (N' - 1) 0 gap 0 (none_behind _ _ x a.at) (none_behind _ _ _ refl) (plain _ _ sum_data) (let g = gap_is in omega (arith, g, here, there)) e z r late b

    data_back : (e : LogicCell) (z : ℕ) → IsInRow other kit e z → x2_data ≤ z → IsNearBehind reach (width c) x2_data z → Back e z x x2_data
    data_back e z (inl b) le near = absurd (begin_before_there e x2_data z ((N' - 1) * D) b refl le)
    data_back e z (inr (inl b)) le near =
        let l = no_less S' (N' - 1) b.i D 0 z (none_behind _ _ z b.at) (let w = some_dff in omega (arith, w)) le in
        let bl = b.less in
        let same : b.i ≡ N' - 1 = omega (arith, l, bl) in
        record {
          d = Dd a.i;
          y = S + a.i * D;
          at = put_data plan kit a.i a.less;
          role = sym (ap (logic_role other) b.is);
          far = far S S' a.i a.i (N' - 1) b.i 0 gap D 0 0 x (S + a.i * D) x2_data z (none_behind _ _ x a.at) (none_behind _ _ _ refl) (none_behind _ _ _ refl) (none_behind _ _ z b.at) (plain _ _ sum_data) (let s = sum_data in omega (arith, s, same));
        }
    data_back e z (inr (inr (inl b))) le near =
        let u = data_up_there z (N' + b.m) 0 (none_behind _ _ z b.at) near in
        let s = no_more.1 in
        let n : b.m ≡ 0 = omega (arith, u, s) in
        let two = (two_from size.masks_are b.m b.less).0 in
        let g = gap_is in
        record {
          d = Dm 0;
          y = S + (N + 0) * D;
          at = put_mask plan kit 0 (omega (arith, two));
          role = sym (ap (logic_role other) b.is);
          far = far S S' a.i (N + 0) (N' - 1) (N' + b.m) 0 gap D 0 0 x (S + (N + 0) * D) x2_data z (none_behind _ _ x a.at) (none_behind _ _ _ refl) (none_behind _ _ _ refl) (none_behind _ _ z b.at) (plain _ _ sum_data) (omega (arith, n, g));
        }
    data_back e z (inr (inr (inr (inl b)))) le near =
        let there = data_none_there z (total_width other kit b.before) (banks_late_in e z b) near in
        data_from e z (total_width other kit b.before) (banks_late_in e z b) (none_here size.masks_are there) there (back.banks_back plan kit wire word write masks reach words some size short e z b)
    data_back e z (inr (inr (inr (inr b)))) le near =
        let there = data_none_there z (enable_r_there b.b b.m b.off) (enable_late_in e z b) near in
        let here = none_here size.masks_are there in
        data_from e z (enable_r_there b.b b.m b.off) (enable_late_in e z b) here there (plain_back e z b here there)

    pub last_data_run : Run c x
    last_data_run = record {
      moves = same_moves gap;
      x2 = x2_data;
      begins = λ none. absurd (let w = first.start_wide plan kit wire word write masks reach words some size short in let d = some_dff in let s = start_there in let e = a.at in omega (arith, none, w, d, s, e));
      forth = λ d y at le near. data_forth d y (place_is plan kit d y at) le near;
      back = λ e z at le near. data_back e z (place_is other kit e z at) le near;
    }
