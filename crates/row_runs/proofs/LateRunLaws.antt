-- Runs that begin behind all flip-flops: at a cell of banks.
use Rattle.std.proofs.Common.{◌≡◌, ◌⊎◌, inl, inr, ℕ, ◌+◌, ◌-◌, ◌*◌, ◌<◌, ◌≤◌, ℤ, pos, ◌≤ℤ◌, subst, arith}
use Rattle.cell_roles.specs.declared.role.Role.TheVariants.{Dff}
use Rattle.tech_rules.specs.declared.tech.Wire.{Wire}
use Rattle.sram_netlist.specs.Organization.{Organization, inputs_of}
use Rattle.sram_netlist.specs.Instances.{LogicCell, Dd}
use Rattle.sram_netlist.specs.InstanceList.{banks_cells}
use Rattle.sram_netlist.specs.Netlist.{logic_role, enables_of}
use Rattle.macro_layout.specs.LayoutKit.{LayoutKit}
use Rattle.macro_layout.specs.Places.{total_width}
use Rattle.moved_nets.specs.Moved.{Moves}
use Rattle.good_places.specs.Leaves.{ReachesNeighboursOnly}
use Rattle.good_places.specs.Windows.{with_bits}
use Rattle.good_places.proofs.CellRowLaws.{begin_cells}
use Rattle.small_rows.specs.Few.{IsFewBits}
use Rattle.small_rows.specs.Row.{IsInPart, data_start, banks_start, enables_start, pair_width, IsEnable, IsInRow}
use Rattle.small_rows.proofs.SteadyLaws.{no_unit, last_of}
use Rattle.small_rows.proofs.RowPlaceLaws.{place_is}
use Rattle.small_rows.proofs.InputPairLaws as first
use Rattle.small_rows.proofs.EnablePairLaws as second
use Rattle.row_runs.specs.Run.{IsNearBehind, IsForth, IsBack, IsCellRun}
use Rattle.row_runs.proofs.BackLaws as back
use Rattle.row_runs.proofs.DataRunLaws as data_runs
use Rattle.row_runs.proofs.LastDataLaws as last_runs
use Rattle.row_runs.proofs.MaskRunLaws as mask_runs
use Rattle.row_runs.proofs.BackLaws.{no_less}

module _ (plan : Organization) (kit : LayoutKit) (wire : Wire) (word write masks : ℕ) (reach : ℤ) (words : 0 < plan.word_size) (some : 0 < plan.write_size) (size : IsFewBits plan word write masks) (short : ReachesNeighboursOnly kit wire reach) (drawn : (c : LogicCell) → 1 ≤ kit.width (logic_role plan c)) where
  abbrev other : Organization
  other = with_bits plan word write masks

  abbrev D : ℕ
  D = kit.width Dff

  abbrev S : ℕ
  S = data_start plan kit

  abbrev S' : ℕ
  S' = data_start other kit

  abbrev N : ℕ
  N = inputs_of plan

  abbrev N' : ℕ
  N' = inputs_of other

  abbrev width : LogicCell → ℕ
  width c = kit.width (logic_role plan c)

  abbrev Forth : Moves → LogicCell → ℕ → ℕ → ℕ → Type 0
  Forth v d y x x2 = IsForth other kit D v d y x x2

  abbrev Back : LogicCell → ℕ → ℕ → ℕ → Type 0
  Back e z x x2 = IsBack plan other kit e z x x2

  abbrev Banks : LogicCell → ℕ → Type 0
  Banks c x = IsInPart plan kit (banks_cells plan plan.bank_bits) (banks_start plan kit) c x

  abbrev BanksThere : LogicCell → ℕ → Type 0
  BanksThere e z = IsInPart other kit (banks_cells other other.bank_bits) (banks_start other kit) e z

  abbrev Run : LogicCell → ℕ → Type 0
  Run c x = IsCellRun plan other kit reach D c x

  abbrev gap : ℕ
  gap = N - N'

  abbrev same_moves : ℕ → Moves
  same_moves k = record { k = k; mask = λ m. m; of_bank = λ b m. m }

  abbrev far : (s t i j i2 j2 l m d p r x y x2 y2 : ℕ) → x ≡ s + (i * d + p) → y ≡ s + (j * d + r) → x2 ≡ t + (i2 * d + p) → y2 ≡ t + (j2 * d + r) → i + l ≡ i2 + m → j + l ≡ j2 + m → x2 + y ≡ y2 + x
  far = first.far plan kit wire word write masks reach words some size short

  abbrev none_behind : (s n x : ℕ) → x ≡ s + n → x ≡ s + (n + 0)
  none_behind = first.none_behind plan kit wire word write masks reach words some size short

  abbrev P : ℕ
  P = pair_width plan kit

  abbrev M : ℕ
  M = plan.masks

  abbrev last_moves : Moves
  last_moves = record { k = gap; mask = last_of plan.masks; of_bank = λ b. last_of plan.masks }

  abbrev IsLateThere : (v : Moves) (c : LogicCell) (x r : ℕ) → Type 0
  IsLateThere = first.IsLateThere plan kit wire word write masks reach words some size short

  abbrev IsLateBack : (e : LogicCell) (r : ℕ) → Type 0
  IsLateBack = back.IsLateBack plan kit wire word write masks reach words some size short

  abbrev banks_late_there : (v : Moves) (c : LogicCell) (x : ℕ) (p : Banks c x) → IsLateThere v c x (total_width plan kit p.before)
  banks_late_there = first.banks_late_there plan kit wire word write masks reach words some size short

  abbrev enable_r : ℕ → ℕ → ℕ → ℕ
  enable_r b m off = total_width plan kit (banks_cells plan plan.bank_bits) + ((b * enables_of plan + m) * P + off)

  abbrev enable_r_there : ℕ → ℕ → ℕ → ℕ
  enable_r_there b m off = total_width other kit (banks_cells other other.bank_bits) + ((b * enables_of other + m) * pair_width other kit + off)

  abbrev plain_enable : (d : LogicCell) (y : ℕ) (b : IsEnable plan kit d y) → M ≡ 0 → masks ≡ 0 → IsLateThere (same_moves gap) d y (enable_r b.b b.m b.off)
  plain_enable = second.plain_enable plan kit wire word write masks reach words some size short

  abbrev first_enable : (d : LogicCell) (y : ℕ) (b : IsEnable plan kit d y) → 2 ≤ masks → b.b * enables_of plan + b.m ≡ 0 → IsLateThere last_moves d y (enable_r b.b b.m b.off)
  first_enable = second.first_enable plan kit wire word write masks reach words some size short

  abbrev banks_late : (d : LogicCell) (y : ℕ) (p : Banks d y) → y ≡ S + ((N + M) * D + total_width plan kit p.before)
  banks_late = first.banks_late plan kit wire word write masks reach words some size short

  enable_late : (d : LogicCell) (y : ℕ) (p : IsEnable plan kit d y) → y ≡ S + ((N + M) * D + enable_r p.b p.m p.off)
  enable_late d y p = let a = p.at in omega (arith, a)

  banks_late_in : (e : LogicCell) (z : ℕ) (p : BanksThere e z) → z ≡ S' + ((N' + masks) * D + total_width other kit p.before)
  banks_late_in e z p = let a = p.at in omega (arith, a)

  enable_late_in : (e : LogicCell) (z : ℕ) (p : IsEnable other kit e z) → z ≡ S' + ((N' + masks) * D + enable_r_there p.b p.m p.off)
  enable_late_in e z p = let a = p.at in omega (arith, a)

  some_dff : 1 ≤ D
  some_dff = drawn (Dd 0)

  -- said before, of the same
  abbrev Masks : Type 0
  Masks = ((M ≡ 0) × (masks ≡ 0)) ⊎ ((2 ≤ M) × (2 ≤ masks) × (write ≡ 1) × (masks ≡ word))

  abbrev begin_before : (d : LogicCell) (x y r : ℕ) → IsInPart plan kit (begin_cells plan) 0 d y → x ≡ S + r → x ≤ y → ⊥
  begin_before = data_runs.begin_before plan kit wire word write masks reach words some size short drawn

  abbrev begin_before_there : (e : LogicCell) (x z r : ℕ) → IsInPart other kit (begin_cells other) 0 e z → x ≡ S' + r → x ≤ z → ⊥
  begin_before_there = data_runs.begin_before_there plan kit wire word write masks reach words some size short drawn

  abbrev first_back : (e : LogicCell) (z : ℕ) (p : IsEnable other kit e z) → 2 ≤ M → p.b * enables_of other + p.m ≡ 0 → IsLateBack e (enable_r_there p.b p.m p.off)
  first_back = last_runs.first_back plan kit wire word write masks reach words some size short drawn

  abbrev plain_back : (e : LogicCell) (z : ℕ) (p : IsEnable other kit e z) → M ≡ 0 → masks ≡ 0 → IsLateBack e (enable_r_there p.b p.m p.off)
  plain_back = last_runs.plain_back plan kit wire word write masks reach words some size short drawn

  abbrev banks_back : (e : LogicCell) (z : ℕ) (p : BanksThere e z) → IsLateBack e (total_width other kit p.before)
  banks_back = back.banks_back plan kit wire word write masks reach words some size short

  abbrev late_to : (c : LogicCell) (x x2 j j2 l m r0 : ℕ) → x ≡ S + (j * D + r0) → x2 ≡ S' + (j2 * D + r0) → j + l ≡ j2 + m → (N + M) + l ≡ (N' + masks) + m → (v : Moves) (d : LogicCell) (y r : ℕ) → y ≡ S + ((N + M) * D + r) → IsLateThere v d y r → Forth v d y x x2
  late_to = last_runs.late_to plan kit wire word write masks reach words some size short drawn

  abbrev late_from : (c : LogicCell) (x x2 j j2 l m r0 : ℕ) → x ≡ S + (j * D + r0) → x2 ≡ S' + (j2 * D + r0) → j + l ≡ j2 + m → (N + M) + l ≡ (N' + masks) + m → (e : LogicCell) (z r : ℕ) → z ≡ S' + ((N' + masks) * D + r) → IsLateBack e r → Back e z x x2
  late_from = last_runs.late_from plan kit wire word write masks reach words some size short drawn

  abbrev pair_reaches : 2 ≤ M → reach ≤ℤ pos P
  pair_reaches = first.wide_pair plan kit wire word write masks reach words some size short

  abbrev same_pair : P ≡ pair_width other kit
  same_pair = first.pair_there plan kit wire word write masks reach words some size short

  abbrev same_banks : total_width plan kit (banks_cells plan plan.bank_bits) ≡ total_width other kit (banks_cells other other.bank_bits)
  same_banks = first.banks_there plan kit wire word write masks reach words some size short

  abbrev never_first : (x r : ℕ) → x ≡ S + r → x ≡ 0 → ⊥
  never_first = mask_runs.never_first plan kit wire word write masks reach words some size short drawn

  abbrev ES' : ℕ
  ES' = enables_start other kit

  -- flip-flops stand in front of what is behind all of them
  pub flops_before : (x r y i : ℕ) → x ≡ S + ((N + M) * D + r) → x ≤ y → y ≡ S + i * D → i < N + M → ⊥
  flops_before x r y i is le at lt = let l = no_less S (N + M) i D 0 y (none_behind _ _ y at) (let w = some_dff in omega (arith, w)) (omega (arith, is, le)) in omega (arith, l, lt)

  pub flops_before_there : (x r z i : ℕ) → x ≡ S' + ((N' + masks) * D + r) → x ≤ z → z ≡ S' + i * D → i < N' + masks → ⊥
  flops_before_there x r z i is le at lt = let l = no_less S' (N' + masks) i D 0 z (none_behind _ _ z at) (let w = some_dff in omega (arith, w)) (omega (arith, is, le)) in omega (arith, l, lt)

  all_e1 : (N + M) + (N' + masks) ≡ (N' + masks) + (N + M)
  all_e1 = omega arith

  -- A cell behind all flip-flops, which has its like as far behind them; which enables are there is told
  module _ (c : LogicCell) (x r0 : ℕ) (late : x ≡ S + ((N + M) * D + r0)) (v : Moves) (t : IsLateThere v c x r0) where
    pub late_run : ((d : LogicCell) (y : ℕ) (b : Banks d y) → x ≤ y → IsLateThere v d y (total_width plan kit b.before)) → ((d : LogicCell) (y : ℕ) (b : IsEnable plan kit d y) → x ≤ y → IsNearBehind reach (width c) x y → IsLateThere v d y (enable_r b.b b.m b.off))
        → ((e : LogicCell) (z : ℕ) (b : IsEnable other kit e z) → t.x2 ≤ z → IsNearBehind reach (width c) t.x2 z → IsLateBack e (enable_r_there b.b b.m b.off)) → Run c x
    late_run of_banks of_enables back_enables = record {
      moves = v;
      x2 = t.x2;
      begins = λ none. absurd (never_first x ((N + M) * D + r0) late none);
      forth = λ d y at le near. forth d y (place_is plan kit d y at) le near;
      back = λ e z at le near. from e z (place_is other kit e z at) le near;
    } where
      to : (d : LogicCell) (y r : ℕ) → y ≡ S + ((N + M) * D + r) → IsLateThere v d y r → Forth v d y x t.x2
      to = late_to c x t.x2 (N + M) (N' + masks) (N' + masks) (N + M) r0 late t.at all_e1 all_e1 v

      back_to : (e : LogicCell) (z r : ℕ) → z ≡ S' + ((N' + masks) * D + r) → IsLateBack e r → Back e z x t.x2
      back_to = late_from c x t.x2 (N + M) (N' + masks) (N' + masks) (N + M) r0 late t.at all_e1 all_e1

      forth : (d : LogicCell) (y : ℕ) → IsInRow plan kit d y → x ≤ y → IsNearBehind reach (width c) x y → Forth v d y x t.x2
      forth d y (inl b) le near = absurd (begin_before d x y ((N + M) * D + r0) b late le)
      forth d y (inr (inl b)) le near = absurd (flops_before x r0 y b.i late le b.at (let l = b.less in omega (arith, l)))
      forth d y (inr (inr (inl b))) le near = absurd (flops_before x r0 y (N + b.m) late le b.at (let l = b.less in omega (arith, l)))
      forth d y (inr (inr (inr (inl b)))) le near = to d y (total_width plan kit b.before) (banks_late d y b) (of_banks d y b le)
      forth d y (inr (inr (inr (inr b)))) le near = to d y (enable_r b.b b.m b.off) (enable_late d y b) (of_enables d y b le near)

      from : (e : LogicCell) (z : ℕ) → IsInRow other kit e z → t.x2 ≤ z → IsNearBehind reach (width c) t.x2 z → Back e z x t.x2
      from e z (inl b) le near = absurd (begin_before_there e t.x2 z ((N' + masks) * D + r0) b t.at le)
      from e z (inr (inl b)) le near = absurd (flops_before_there t.x2 r0 z b.i t.at le b.at (let l = b.less in omega (arith, l)))
      from e z (inr (inr (inl b))) le near = absurd (flops_before_there t.x2 r0 z (N' + b.m) t.at le b.at (let l = b.less in omega (arith, l)))
      from e z (inr (inr (inr (inl b)))) le near = back_to e z (total_width other kit b.before) (banks_late_in e z b) (banks_back e z b)
      from e z (inr (inr (inr (inr b)))) le near = back_to e z (enable_r_there b.b b.m b.off) (enable_late_in e z b) (back_enables e z b le near)

  -- A cell of banks

  module _ (c : LogicCell) (x : ℕ) (p : Banks c x) where
    bank_plain : M ≡ 0 → masks ≡ 0 → Run c x
    bank_plain here there =
        late_run c x (total_width plan kit p.before) (banks_late c x p) (same_moves gap) (banks_late_there (same_moves gap) c x p) (λ d y b le. banks_late_there (same_moves gap) d y b)
        (λ d y b le near. plain_enable d y b here there) (λ e z b le near. plain_back e z b here there)

    bank_masked : 2 ≤ M → 2 ≤ masks → Run c x
    bank_masked here there =
        late_run c x (total_width plan kit p.before) (banks_late c x p) last_moves late_is (λ d y b le. banks_late_there last_moves d y b)
        (λ d y b le near. first_enable d y b there (none d y b near)) (λ e z b le near. first_back e z b here (none_there e z b near))
      where
        late_is : IsLateThere last_moves c x (total_width plan kit p.before)
        late_is = banks_late_there last_moves c x p

        ends : x + width c ≤ banks_start plan kit + total_width plan kit (banks_cells plan plan.bank_bits)
        ends = first.part_ends plan kit wire word write masks reach words some size short (banks_cells plan plan.bank_bits) (banks_start plan kit) c x p

        none : (d : LogicCell) (y : ℕ) (b : IsEnable plan kit d y) → IsNearBehind reach (width c) x y → b.b * enables_of plan + b.m ≡ 0
        none d y b near = no_unit (b.b * enables_of plan + b.m) P (let lt = near P (pair_reaches here) in let e = ends in let at = b.at in omega (arith, lt, e, at))

        none_there : (e : LogicCell) (z : ℕ) (b : IsEnable other kit e z) → IsNearBehind reach (width c) late_is.x2 z → b.b * enables_of other + b.m ≡ 0
        none_there e z b near = no_unit (b.b * enables_of other + b.m) (pair_width other kit) (close (near (pair_width other kit) (subst (λ (n : ℕ). reach ≤ℤ pos n) same_pair (pair_reaches here)))) where
          close : z < (late_is.x2 + width c) + pair_width other kit → (b.b * enables_of other + b.m) * pair_width other kit < pair_width other kit
          close lt =
              let at = late_is.at in
              let bx = enable_late_in e z b in
              let k = same_banks in
              let pl = banks_late c x p in
              let en = ends in
              omega (arith, lt, at, bx, k, pl, en)

    pub bank_run : Run c x
    bank_run = by size.masks_are where
      by : Masks → Run c x
      by (inl none) = bank_plain none.0 none.1
      by (inr more) = bank_masked more.0 more.1
