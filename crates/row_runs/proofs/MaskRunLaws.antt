-- Runs that begin at the flip-flop of a mask.
use Rattle.std.proofs.Common.{◌≡◌, ◌⊎◌, inl, inr, ℕ, ◌+◌, ◌-◌, ◌*◌, ◌<◌, ◌≤◌, ℤ, pos, ◌≤ℤ◌, refl, sym, ap, subst, arith}
use Rattle.std.proofs.Math.Nat.{add-mul}
use Rattle.cell_roles.specs.declared.role.Role.TheVariants.{Dff}
use Rattle.tech_rules.specs.declared.tech.Wire.{Wire}
use Rattle.sram_netlist.specs.Organization.{Organization, inputs_of}
use Rattle.sram_netlist.specs.Instances.{LogicCell, Dd, Dm}
use Rattle.sram_netlist.specs.InstanceList.{banks_cells}
use Rattle.sram_netlist.specs.Netlist.{logic_role, enables_of}
use Rattle.macro_layout.specs.LayoutKit.{LayoutKit}
use Rattle.macro_layout.specs.Places.{total_width}
use Rattle.moved_nets.specs.Moved.{Moves}
use Rattle.good_places.specs.Leaves.{ReachesNeighboursOnly}
use Rattle.good_places.specs.Windows.{with_bits}
use Rattle.good_places.proofs.CellRowLaws.{begin_cells}
use Rattle.small_rows.specs.Few.{IsFewBits}
use Rattle.small_rows.specs.Row.{IsInPart, data_start, banks_start, pair_width, IsMask, IsEnable, IsInRow, IsCellThere}
use Rattle.small_rows.proofs.SteadyLaws.{no_unit, last_of, last_is}
use Rattle.small_rows.proofs.RowPlaceLaws.{place_is, put_mask}
use Rattle.small_rows.proofs.InputPairLaws as first
use Rattle.small_rows.proofs.EnablePairLaws as second
use Rattle.row_runs.specs.Run.{IsNearBehind, IsForth, IsBack, IsCellRun}
use Rattle.row_runs.proofs.BackLaws as back
use Rattle.row_runs.proofs.DataRunLaws as data_runs
use Rattle.row_runs.proofs.LastDataLaws as last_runs
use Rattle.row_runs.proofs.BackLaws.{no_less}

module _ (plan : Organization) (kit : LayoutKit) (wire : Wire) (word write masks : ℕ) (reach : ℤ) (words : 0 < plan.word_size) (some : 0 < plan.write_size) (size : IsFewBits plan word write masks) (short : ReachesNeighboursOnly kit wire reach) (drawn : (c : LogicCell) → 1 ≤ kit.width (logic_role plan c)) where
  abbrev other : Organization
  other = with_bits plan word write masks

  abbrev D : ℕ
  D = kit.width Dff

  abbrev S : ℕ
  S = data_start plan kit

  abbrev S' : ℕ
  S' = data_start other kit

  abbrev N : ℕ
  N = inputs_of plan

  abbrev N' : ℕ
  N' = inputs_of other

  abbrev width : LogicCell → ℕ
  width c = kit.width (logic_role plan c)

  abbrev Forth : Moves → LogicCell → ℕ → ℕ → ℕ → Type 0
  Forth v d y x x2 = IsForth other kit D v d y x x2

  abbrev Back : LogicCell → ℕ → ℕ → ℕ → Type 0
  Back e z x x2 = IsBack plan other kit e z x x2

  abbrev Banks : LogicCell → ℕ → Type 0
  Banks c x = IsInPart plan kit (banks_cells plan plan.bank_bits) (banks_start plan kit) c x

  abbrev BanksThere : LogicCell → ℕ → Type 0
  BanksThere e z = IsInPart other kit (banks_cells other other.bank_bits) (banks_start other kit) e z

  abbrev Run : LogicCell → ℕ → Type 0
  Run c x = IsCellRun plan other kit reach D c x

  abbrev gap : ℕ
  gap = N - N'

  abbrev gap_is : N ≡ N' + gap
  gap_is = first.gap_is plan kit wire word write masks reach words some size short

  abbrev start_there : S ≡ S'
  start_there = first.start_there plan kit wire word write masks reach words some size short

  abbrev far : (s t i j i2 j2 l m d p r x y x2 y2 : ℕ) → x ≡ s + (i * d + p) → y ≡ s + (j * d + r) → x2 ≡ t + (i2 * d + p) → y2 ≡ t + (j2 * d + r) → i + l ≡ i2 + m → j + l ≡ j2 + m → x2 + y ≡ y2 + x
  far = first.far plan kit wire word write masks reach words some size short

  abbrev none_behind : (s n x : ℕ) → x ≡ s + n → x ≡ s + (n + 0)
  none_behind = first.none_behind plan kit wire word write masks reach words some size short

  abbrev units : (s i j r w x y : ℕ) → x ≡ s + i * D → y ≡ s + (j * D + r) → w ≡ D → y < (x + w) + D → j < i + 2
  units = first.units plan kit wire word write masks reach words some size short

  abbrev P : ℕ
  P = pair_width plan kit

  abbrev M : ℕ
  M = plan.masks

  abbrev last_moves : Moves
  last_moves = record { k = gap; mask = last_of plan.masks; of_bank = λ b. last_of plan.masks }

  abbrev shift_moves : ℕ → Moves
  shift_moves a = record { k = gap; mask = λ m. m + a; of_bank = λ b m. m + a }

  abbrev mask_there : (v : Moves) (c : LogicCell) (x m : ℕ) (d : IsMask plan kit c x) → v.mask m ≡ d.m → m < masks → IsCellThere other kit D v c x (S' + (N' + m) * D)
  mask_there = first.mask_there plan kit wire word write masks reach words some size short

  abbrev IsLateThere : (v : Moves) (c : LogicCell) (x r : ℕ) → Type 0
  IsLateThere = first.IsLateThere plan kit wire word write masks reach words some size short

  abbrev IsLateBack : (e : LogicCell) (r : ℕ) → Type 0
  IsLateBack = back.IsLateBack plan kit wire word write masks reach words some size short

  abbrev banks_late_there : (v : Moves) (c : LogicCell) (x : ℕ) (p : Banks c x) → IsLateThere v c x (total_width plan kit p.before)
  banks_late_there = first.banks_late_there plan kit wire word write masks reach words some size short

  abbrev enable_r : ℕ → ℕ → ℕ → ℕ
  enable_r b m off = total_width plan kit (banks_cells plan plan.bank_bits) + ((b * enables_of plan + m) * P + off)

  abbrev enable_r_there : ℕ → ℕ → ℕ → ℕ
  enable_r_there b m off = total_width other kit (banks_cells other other.bank_bits) + ((b * enables_of other + m) * pair_width other kit + off)

  abbrev first_enable : (d : LogicCell) (y : ℕ) (b : IsEnable plan kit d y) → 2 ≤ masks → b.b * enables_of plan + b.m ≡ 0 → IsLateThere last_moves d y (enable_r b.b b.m b.off)
  first_enable = second.first_enable plan kit wire word write masks reach words some size short

  abbrev banks_late : (d : LogicCell) (y : ℕ) (p : Banks d y) → y ≡ S + ((N + M) * D + total_width plan kit p.before)
  banks_late = first.banks_late plan kit wire word write masks reach words some size short

  enable_late : (d : LogicCell) (y : ℕ) (p : IsEnable plan kit d y) → y ≡ S + ((N + M) * D + enable_r p.b p.m p.off)
  enable_late d y p = let a = p.at in omega (arith, a)

  banks_late_in : (e : LogicCell) (z : ℕ) (p : BanksThere e z) → z ≡ S' + ((N' + masks) * D + total_width other kit p.before)
  banks_late_in e z p = let a = p.at in omega (arith, a)

  enable_late_in : (e : LogicCell) (z : ℕ) (p : IsEnable other kit e z) → z ≡ S' + ((N' + masks) * D + enable_r_there p.b p.m p.off)
  enable_late_in e z p = let a = p.at in omega (arith, a)

  some_dff : 1 ≤ D
  some_dff = drawn (Dd 0)

  -- said before, of the same
  abbrev Masks : Type 0
  Masks = ((M ≡ 0) × (masks ≡ 0)) ⊎ ((2 ≤ M) × (2 ≤ masks) × (write ≡ 1) × (masks ≡ word))

  abbrev two_masks : Masks → (m : ℕ) → m < M → (2 ≤ M) × (2 ≤ masks)
  two_masks = last_runs.two_masks plan kit wire word write masks reach words some size short drawn

  abbrev begin_before : (d : LogicCell) (x y r : ℕ) → IsInPart plan kit (begin_cells plan) 0 d y → x ≡ S + r → x ≤ y → ⊥
  begin_before = data_runs.begin_before plan kit wire word write masks reach words some size short drawn

  abbrev begin_before_there : (e : LogicCell) (x z r : ℕ) → IsInPart other kit (begin_cells other) 0 e z → x ≡ S' + r → x ≤ z → ⊥
  begin_before_there = data_runs.begin_before_there plan kit wire word write masks reach words some size short drawn

  abbrev first_back : (e : LogicCell) (z : ℕ) (p : IsEnable other kit e z) → 2 ≤ M → p.b * enables_of other + p.m ≡ 0 → IsLateBack e (enable_r_there p.b p.m p.off)
  first_back = last_runs.first_back plan kit wire word write masks reach words some size short drawn

  abbrev banks_back : (e : LogicCell) (z : ℕ) (p : BanksThere e z) → IsLateBack e (total_width other kit p.before)
  banks_back = back.banks_back plan kit wire word write masks reach words some size short

  abbrev late_to : (c : LogicCell) (x x2 j j2 l m r0 : ℕ) → x ≡ S + (j * D + r0) → x2 ≡ S' + (j2 * D + r0) → j + l ≡ j2 + m → (N + M) + l ≡ (N' + masks) + m → (v : Moves) (d : LogicCell) (y r : ℕ) → y ≡ S + ((N + M) * D + r) → IsLateThere v d y r → Forth v d y x x2
  late_to = last_runs.late_to plan kit wire word write masks reach words some size short drawn

  abbrev late_from : (c : LogicCell) (x x2 j j2 l m r0 : ℕ) → x ≡ S + (j * D + r0) → x2 ≡ S' + (j2 * D + r0) → j + l ≡ j2 + m → (N + M) + l ≡ (N' + masks) + m → (e : LogicCell) (z r : ℕ) → z ≡ S' + ((N' + masks) * D + r) → IsLateBack e r → Back e z x x2
  late_from = last_runs.late_from plan kit wire word write masks reach words some size short drawn

  abbrev pair_reaches : 2 ≤ M → reach ≤ℤ pos P
  pair_reaches = first.wide_pair plan kit wire word write masks reach words some size short

  abbrev same_pair : P ≡ pair_width other kit
  same_pair = first.pair_there plan kit wire word write masks reach words some size short

  -- a flip-flop of a mask begins no earlier than one of those before it ends
  mask_from : (i y : ℕ) (b : ℕ) → y ≡ S + b * D → S + i * D ≤ y → i ≤ b
  mask_from i y b is le = no_less S i b D 0 y (none_behind _ _ y is) (let w = some_dff in omega (arith, w)) le

  mask_from_there : (i z : ℕ) (b : ℕ) → z ≡ S' + b * D → S' + i * D ≤ z → i ≤ b
  mask_from_there i z b is le = no_less S' i b D 0 z (none_behind _ _ z is) (let w = some_dff in omega (arith, w)) le

  pub never_first : (x r : ℕ) → x ≡ S + r → x ≡ 0 → ⊥
  never_first x r is none = let w = first.start_wide plan kit wire word write masks reach words some size short in let d = some_dff in let s = start_there in omega (arith, none, w, d, s, is)

  -- A mask that isn't the last

  module _ (c : LogicCell) (x : ℕ) (a : IsMask plan kit c x) (more : a.m + 1 < M) where
    two : 2 ≤ masks
    two = (two_masks size.masks_are a.m a.less).1

    abbrev x2_mask : ℕ
    x2_mask = S' + (N' + 0) * D

    mask_up : (y j r : ℕ) → y ≡ S + (j * D + r) → IsNearBehind reach (width c) x y → j < (N + a.m) + 2
    mask_up y j r is near = units S (N + a.m) j r (width c) x y a.at is (ap width a.is) (near D short.dff)

    mask_up_there : (z j r : ℕ) → z ≡ S' + (j * D + r) → IsNearBehind reach (width c) x2_mask z → j < (N' + 0) + 2
    mask_up_there z j r is near = units S' (N' + 0) j r (width c) x2_mask z refl is (ap width a.is) (near D short.dff)

    mask_forth : (d : LogicCell) (y : ℕ) → IsInRow plan kit d y → x ≤ y → IsNearBehind reach (width c) x y → Forth (shift_moves a.m) d y x x2_mask
    mask_forth d y (inl b) le near = absurd (begin_before d x y ((N + a.m) * D) b a.at le)
    mask_forth d y (inr (inl b)) le near = let l = mask_from (N + a.m) y b.i b.at (let e = a.at in omega (arith, e, le)) in let bl = b.less in absurd (omega (arith, l, bl))
    mask_forth d y (inr (inr (inl b))) le near =
        let u = mask_up y (N + b.m) 0 (none_behind _ _ y b.at) near in
        let l = mask_from (N + a.m) y (N + b.m) b.at (let e = a.at in omega (arith, e, le)) in
        let g = gap_is in
        let t = two in
        record {
          y2 = S' + (N' + (b.m - a.m)) * D;
          is = mask_there (shift_moves a.m) d y (b.m - a.m) b (omega (arith, l)) (omega (arith, u, t));
          far = far S S' (N + a.m) (N + b.m) (N' + 0) (N' + (b.m - a.m)) 0 (gap + a.m) D 0 0 x y x2_mask (S' + (N' + (b.m - a.m)) * D) (none_behind _ _ x a.at) (none_behind _ _ y b.at) (none_behind _ _ _ refl) (none_behind _ _ _ refl) (omega (arith, g)) (omega (arith, g, l));
        }
    mask_forth d y (inr (inr (inr (inl b)))) le near = let u = mask_up y (N + M) (total_width plan kit b.before) (banks_late d y b) near in absurd (omega (arith, u, more))
    mask_forth d y (inr (inr (inr (inr b)))) le near = let u = mask_up y (N + M) (enable_r b.b b.m b.off) (enable_late d y b) near in absurd (omega (arith, u, more))

    mask_back : (e : LogicCell) (z : ℕ) → IsInRow other kit e z → x2_mask ≤ z → IsNearBehind reach (width c) x2_mask z → Back e z x x2_mask
    mask_back e z (inl b) le near = absurd (begin_before_there e x2_mask z ((N' + 0) * D) b refl le)
    mask_back e z (inr (inl b)) le near = let l = mask_from_there (N' + 0) z b.i b.at le in let bl = b.less in absurd (omega (arith, l, bl))
    mask_back e z (inr (inr (inl b))) le near =
        let u = mask_up_there z (N' + b.m) 0 (none_behind _ _ z b.at) near in
        let g = gap_is in
        record {
          d = Dm (b.m + a.m);
          y = S + (N + (b.m + a.m)) * D;
          at = put_mask plan kit (b.m + a.m) (omega (arith, u, more));
          role = sym (ap (logic_role other) b.is);
          far = far S S' (N + a.m) (N + (b.m + a.m)) (N' + 0) (N' + b.m) 0 (gap + a.m) D 0 0 x (S + (N + (b.m + a.m)) * D) x2_mask z (none_behind _ _ x a.at) (none_behind _ _ _ refl) (none_behind _ _ _ refl) (none_behind _ _ z b.at) (omega (arith, g)) (omega (arith, g));
        }
    mask_back e z (inr (inr (inr (inl b)))) le near = let u = mask_up_there z (N' + masks) (total_width other kit b.before) (banks_late_in e z b) near in let t = two in absurd (omega (arith, u, t))
    mask_back e z (inr (inr (inr (inr b)))) le near = let u = mask_up_there z (N' + masks) (enable_r_there b.b b.m b.off) (enable_late_in e z b) near in let t = two in absurd (omega (arith, u, t))

    pub mask_run : Run c x
    mask_run = record {
      moves = shift_moves a.m;
      x2 = x2_mask;
      begins = λ none. absurd (never_first x ((N + a.m) * D) a.at none);
      forth = λ d y at le near. mask_forth d y (place_is plan kit d y at) le near;
      back = λ e z at le near. mask_back e z (place_is other kit e z at) le near;
    }

  -- The last mask

  module _ (c : LogicCell) (x : ℕ) (a : IsMask plan kit c x) (last : a.m + 1 ≡ M) where
    both_two : (2 ≤ M) × (2 ≤ masks)
    both_two = two_masks size.masks_are a.m a.less

    abbrev x2_last : ℕ
    x2_last = S' + (N' + (masks - 1)) * D

    last_e1 : (N + a.m) + (N' + masks) ≡ (N' + (masks - 1)) + (N + M)
    last_e1 = let t = both_two.1 in omega (arith, last, t)

    last_e2 : (N + M) + (N' + masks) ≡ (N' + masks) + (N + M)
    last_e2 = omega arith

    -- only the first gate of an enable is near
    last_none : (d : LogicCell) (y : ℕ) (b : IsEnable plan kit d y) → IsNearBehind reach (width c) x y → b.b * enables_of plan + b.m ≡ 0
    last_none d y b near = no_unit (b.b * enables_of plan + b.m) P (close (near P (pair_reaches both_two.0))) where
      close : y < (x + width c) + P → (b.b * enables_of plan + b.m) * P < P
      close lt =
          let q : (N + (a.m + 1)) * D ≡ (N + M) * D = ap (λ (n : ℕ). (N + n) * D) last in
          let p : ((N + a.m) + 1) * D ≡ (N + a.m) * D + 1 * D = add-mul (N + a.m) 1 D in
          let r : (N + (a.m + 1)) * D ≡ ((N + a.m) + 1) * D = ap (λ (n : ℕ). n * D) (let h : N + (a.m + 1) ≡ (N + a.m) + 1 = omega arith in h) in
          let wd : width c ≡ D = ap width a.is in
          let ax = a.at in
          let bx = enable_late d y b in
          omega (arith, q, p, r, wd, ax, bx, lt)

    last_none_there : (e : LogicCell) (z : ℕ) (b : IsEnable other kit e z) → IsNearBehind reach (width c) x2_last z → b.b * enables_of other + b.m ≡ 0
    last_none_there e z b near = no_unit (b.b * enables_of other + b.m) (pair_width other kit) (close (near (pair_width other kit) (subst (λ (n : ℕ). reach ≤ℤ pos n) same_pair (pair_reaches both_two.0)))) where
      close : z < (x2_last + width c) + pair_width other kit → (b.b * enables_of other + b.m) * pair_width other kit < pair_width other kit
      close lt =
          let t = both_two.1 in
          let p : ((N' + (masks - 1)) + 1) * D ≡ (N' + (masks - 1)) * D + 1 * D = add-mul (N' + (masks - 1)) 1 D in
          let r : (N' + masks) * D ≡ ((N' + (masks - 1)) + 1) * D = ap (λ (n : ℕ). n * D) (let h : N' + masks ≡ (N' + (masks - 1)) + 1 = omega (arith, t) in h) in
          let wd : width c ≡ D = ap width a.is in
          let bx = enable_late_in e z b in
          omega (arith, p, r, wd, bx, lt)

    last_forth : (d : LogicCell) (y : ℕ) → IsInRow plan kit d y → x ≤ y → IsNearBehind reach (width c) x y → Forth last_moves d y x x2_last
    last_forth d y (inl b) le near = absurd (begin_before d x y ((N + a.m) * D) b a.at le)
    last_forth d y (inr (inl b)) le near = let l = mask_from (N + a.m) y b.i b.at (let e = a.at in omega (arith, e, le)) in let bl = b.less in absurd (omega (arith, l, bl))
    last_forth d y (inr (inr (inl b))) le near =
        let l = mask_from (N + a.m) y (N + b.m) b.at (let e = a.at in omega (arith, e, le)) in
        let bl = b.less in
        let t = both_two.1 in
        let is : last_of M (masks - 1) ≡ M - 1 = last_is M (masks - 1) (omega (arith, t)) in
        let same : b.m ≡ a.m = omega (arith, l, bl, last) in
        record {
          y2 = x2_last;
          is = mask_there last_moves d y (masks - 1) b (omega (arith, is, same, last)) (omega (arith, t));
          far = far S S' (N + a.m) (N + b.m) (N' + (masks - 1)) (N' + (masks - 1)) (N' + masks) (N + M) D 0 0 x y x2_last x2_last (none_behind _ _ x a.at) (none_behind _ _ y b.at) (none_behind _ _ _ refl) (none_behind _ _ _ refl) last_e1 (let f = last_e1 in omega (arith, f, same));
        }
    last_forth d y (inr (inr (inr (inl b)))) le near = late_to c x x2_last (N + a.m) (N' + (masks - 1)) (N' + masks) (N + M) 0 (none_behind _ _ x a.at) (none_behind _ _ _ refl) last_e1 last_e2 last_moves d y (total_width plan kit b.before) (banks_late d y b) (banks_late_there last_moves d y b)
    last_forth d y (inr (inr (inr (inr b)))) le near = late_to c x x2_last (N + a.m) (N' + (masks - 1)) (N' + masks) (N + M) 0 (none_behind _ _ x a.at) (none_behind _ _ _ refl) last_e1 last_e2 last_moves d y (enable_r b.b b.m b.off) (enable_late d y b) (first_enable d y b both_two.1 (last_none d y b near))

    last_back : (e : LogicCell) (z : ℕ) → IsInRow other kit e z → x2_last ≤ z → IsNearBehind reach (width c) x2_last z → Back e z x x2_last
    last_back e z (inl b) le near = absurd (begin_before_there e x2_last z ((N' + (masks - 1)) * D) b refl le)
    last_back e z (inr (inl b)) le near = let l = mask_from_there (N' + (masks - 1)) z b.i b.at le in let bl = b.less in let t = both_two.1 in absurd (omega (arith, l, bl, t))
    last_back e z (inr (inr (inl b))) le near =
        let l = mask_from_there (N' + (masks - 1)) z (N' + b.m) b.at le in
        let bl = b.less in
        let same : b.m ≡ masks - 1 = omega (arith, l, bl) in
        record {
          d = Dm a.m;
          y = S + (N + a.m) * D;
          at = put_mask plan kit a.m a.less;
          role = sym (ap (logic_role other) b.is);
          far = far S S' (N + a.m) (N + a.m) (N' + (masks - 1)) (N' + b.m) (N' + masks) (N + M) D 0 0 x (S + (N + a.m) * D) x2_last z (none_behind _ _ x a.at) (none_behind _ _ _ refl) (none_behind _ _ _ refl) (none_behind _ _ z b.at) last_e1 (let f = last_e1 in omega (arith, f, same));
        }
    last_back e z (inr (inr (inr (inl b)))) le near = late_from c x x2_last (N + a.m) (N' + (masks - 1)) (N' + masks) (N + M) 0 (none_behind _ _ x a.at) (none_behind _ _ _ refl) last_e1 last_e2 e z (total_width other kit b.before) (banks_late_in e z b) (banks_back e z b)
    last_back e z (inr (inr (inr (inr b)))) le near = late_from c x x2_last (N + a.m) (N' + (masks - 1)) (N' + masks) (N + M) 0 (none_behind _ _ x a.at) (none_behind _ _ _ refl) last_e1 last_e2 e z (enable_r_there b.b b.m b.off) (enable_late_in e z b) (first_back e z b both_two.0 (last_none_there e z b near))

    pub last_mask_run : Run c x
    last_mask_run = record {
      moves = last_moves;
      x2 = x2_last;
      begins = λ none. absurd (never_first x ((N + a.m) * D) a.at none);
      forth = λ d y at le near. last_forth d y (place_is plan kit d y at) le near;
      back = λ e z at le near. last_back e z (place_is other kit e z at) le near;
    }
