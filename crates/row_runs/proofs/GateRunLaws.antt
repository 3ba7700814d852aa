-- Runs that begin at one of the gates of write enables.
use Rattle.std.proofs.Common.{◌≡◌, ◌⊎◌, inl, inr, ◌∙◌, ℕ, ◌+◌, ◌-◌, ◌*◌, ◌<◌, ◌≤◌, ℤ, pos, ◌≤ℤ◌, refl, sym, ap, subst, arith}
use Rattle.std.proofs.lemmas.Bool.{cases_lt}
use Rattle.std.proofs.Math.Nat.{add-mul}
use Rattle.cell_roles.specs.declared.role.Role.TheVariants.{Dff, Inv}
use Rattle.tech_rules.specs.declared.tech.Wire.{Wire}
use Rattle.sram_netlist.specs.Organization.{Organization, inputs_of}
use Rattle.sram_netlist.specs.Instances.{LogicCell, Clki, Gn, Gi}
use Rattle.sram_netlist.specs.InstanceList.{banks_cells}
use Rattle.sram_netlist.specs.Netlist.{logic_role, enables_of}
use Rattle.macro_layout.specs.LayoutKit.{LayoutKit}
use Rattle.macro_layout.specs.Places.{total_width}
use Rattle.moved_nets.specs.Moved.{Moves}
use Rattle.good_places.specs.Leaves.{ReachesNeighboursOnly}
use Rattle.good_places.specs.Windows.{with_bits}
use Rattle.good_places.proofs.CellRowLaws.{begin_cells}
use Rattle.small_rows.specs.Few.{IsFewBits}
use Rattle.small_rows.specs.Row.{IsInPart, data_start, banks_start, enables_start, enable_width, pair_width, IsEnable, IsInRow}
use Rattle.small_rows.proofs.SteadyLaws.{fewer, last_of, last_is, AreNext, next_pair}
use Rattle.small_rows.proofs.RowPlaceLaws.{place_is}
use Rattle.small_rows.proofs.InputPairLaws as first
use Rattle.small_rows.proofs.EnablePairLaws as second
use Rattle.row_runs.specs.Run.{IsNearBehind, IsForth, IsBack, IsCellRun}
use Rattle.row_runs.proofs.BackLaws as back
use Rattle.row_runs.proofs.DataRunLaws as data_runs
use Rattle.row_runs.proofs.LastDataLaws as last_runs
use Rattle.row_runs.proofs.MaskRunLaws as mask_runs
use Rattle.row_runs.proofs.LateRunLaws as late_runs
use Rattle.row_runs.proofs.BackLaws.{no_less}

module _ (plan : Organization) (kit : LayoutKit) (wire : Wire) (word write masks : ℕ) (reach : ℤ) (words : 0 < plan.word_size) (some : 0 < plan.write_size) (size : IsFewBits plan word write masks) (short : ReachesNeighboursOnly kit wire reach) (drawn : (c : LogicCell) → 1 ≤ kit.width (logic_role plan c)) where
  abbrev other : Organization
  other = with_bits plan word write masks

  abbrev D : ℕ
  D = kit.width Dff

  abbrev S : ℕ
  S = data_start plan kit

  abbrev S' : ℕ
  S' = data_start other kit

  abbrev N : ℕ
  N = inputs_of plan

  abbrev N' : ℕ
  N' = inputs_of other

  abbrev width : LogicCell → ℕ
  width c = kit.width (logic_role plan c)

  abbrev Forth : Moves → LogicCell → ℕ → ℕ → ℕ → Type 0
  Forth v d y x x2 = IsForth other kit D v d y x x2

  abbrev Back : LogicCell → ℕ → ℕ → ℕ → Type 0
  Back e z x x2 = IsBack plan other kit e z x x2

  abbrev Banks : LogicCell → ℕ → Type 0
  Banks c x = IsInPart plan kit (banks_cells plan plan.bank_bits) (banks_start plan kit) c x

  abbrev BanksThere : LogicCell → ℕ → Type 0
  BanksThere e z = IsInPart other kit (banks_cells other other.bank_bits) (banks_start other kit) e z

  abbrev Run : LogicCell → ℕ → Type 0
  Run c x = IsCellRun plan other kit reach D c x

  abbrev gap : ℕ
  gap = N - N'

  abbrev same_moves : ℕ → Moves
  same_moves k = record { k = k; mask = λ m. m; of_bank = λ b m. m }

  abbrev far : (s t i j i2 j2 l m d p r x y x2 y2 : ℕ) → x ≡ s + (i * d + p) → y ≡ s + (j * d + r) → x2 ≡ t + (i2 * d + p) → y2 ≡ t + (j2 * d + r) → i + l ≡ i2 + m → j + l ≡ j2 + m → x2 + y ≡ y2 + x
  far = first.far plan kit wire word write masks reach words some size short

  abbrev P : ℕ
  P = pair_width plan kit

  abbrev M : ℕ
  M = plan.masks

  abbrev last_moves : Moves
  last_moves = record { k = gap; mask = last_of plan.masks; of_bank = λ b. last_of plan.masks }

  abbrev shift_moves : ℕ → Moves
  shift_moves a = record { k = gap; mask = λ m. m + a; of_bank = λ b m. m + a }

  abbrev IsLateThere : (v : Moves) (c : LogicCell) (x r : ℕ) → Type 0
  IsLateThere = first.IsLateThere plan kit wire word write masks reach words some size short

  abbrev IsLateBack : (e : LogicCell) (r : ℕ) → Type 0
  IsLateBack = back.IsLateBack plan kit wire word write masks reach words some size short

  abbrev banks_late_there : (v : Moves) (c : LogicCell) (x : ℕ) (p : Banks c x) → IsLateThere v c x (total_width plan kit p.before)
  banks_late_there = first.banks_late_there plan kit wire word write masks reach words some size short

  abbrev enable_r : ℕ → ℕ → ℕ → ℕ
  enable_r b m off = total_width plan kit (banks_cells plan plan.bank_bits) + ((b * enables_of plan + m) * P + off)

  abbrev enable_r_there : ℕ → ℕ → ℕ → ℕ
  enable_r_there b m off = total_width other kit (banks_cells other other.bank_bits) + ((b * enables_of other + m) * pair_width other kit + off)

  abbrev plain_enable : (d : LogicCell) (y : ℕ) (b : IsEnable plan kit d y) → M ≡ 0 → masks ≡ 0 → IsLateThere (same_moves gap) d y (enable_r b.b b.m b.off)
  plain_enable = second.plain_enable plan kit wire word write masks reach words some size short

  enable_late : (d : LogicCell) (y : ℕ) (p : IsEnable plan kit d y) → y ≡ S + ((N + M) * D + enable_r p.b p.m p.off)
  enable_late d y p = let a = p.at in omega (arith, a)

  -- said before, of the same
  abbrev Masks : Type 0
  Masks = ((M ≡ 0) × (masks ≡ 0)) ⊎ ((2 ≤ M) × (2 ≤ masks) × (write ≡ 1) × (masks ≡ word))

  abbrev begin_before : (d : LogicCell) (x y r : ℕ) → IsInPart plan kit (begin_cells plan) 0 d y → x ≡ S + r → x ≤ y → ⊥
  begin_before = data_runs.begin_before plan kit wire word write masks reach words some size short drawn

  abbrev begin_before_there : (e : LogicCell) (x z r : ℕ) → IsInPart other kit (begin_cells other) 0 e z → x ≡ S' + r → x ≤ z → ⊥
  begin_before_there = data_runs.begin_before_there plan kit wire word write masks reach words some size short drawn

  abbrev plain_back : (e : LogicCell) (z : ℕ) (p : IsEnable other kit e z) → M ≡ 0 → masks ≡ 0 → IsLateBack e (enable_r_there p.b p.m p.off)
  plain_back = last_runs.plain_back plan kit wire word write masks reach words some size short drawn

  abbrev pair_reaches : 2 ≤ M → reach ≤ℤ pos P
  pair_reaches = first.wide_pair plan kit wire word write masks reach words some size short

  abbrev same_pair : P ≡ pair_width other kit
  same_pair = first.pair_there plan kit wire word write masks reach words some size short

  abbrev never_first : (x r : ℕ) → x ≡ S + r → x ≡ 0 → ⊥
  never_first = mask_runs.never_first plan kit wire word write masks reach words some size short drawn

  abbrev ES : ℕ
  ES = enables_start plan kit

  abbrev ES' : ℕ
  ES' = enables_start other kit

  abbrev flops_before : (x r y i : ℕ) → x ≡ S + ((N + M) * D + r) → x ≤ y → y ≡ S + i * D → i < N + M → ⊥
  flops_before = late_runs.flops_before plan kit wire word write masks reach words some size short drawn

  abbrev flops_before_there : (x r z i : ℕ) → x ≡ S' + ((N' + masks) * D + r) → x ≤ z → z ≡ S' + i * D → i < N' + masks → ⊥
  flops_before_there = late_runs.flops_before_there plan kit wire word write masks reach words some size short drawn

  -- A gate of an enable, or its inverter

  enables_count : (2 ≤ M → enables_of plan ≡ M) × (2 ≤ masks → enables_of other ≡ masks)
  enables_count = (
    λ two. first.enables_here plan kit wire word write masks reach words some size short ∙ first.each_enable plan kit wire word write masks reach words some size short M two,
    λ two. first.enables_there plan kit wire word write masks reach words some size short ∙ first.each_enable plan kit wire word write masks reach words some size short masks two,
  )

  module _ (c : LogicCell) (x : ℕ) (a : IsEnable plan kit c x) where
    abbrev index : ℕ
    index = a.b * enables_of plan + a.m

    -- cells of banks end before
    banks_before : (d : LogicCell) (y : ℕ) → Banks d y → x ≤ y → ⊥
    banks_before d y b le =
        let e = first.part_ends plan kit wire word write masks reach words some size short (banks_cells plan plan.bank_bits) (banks_start plan kit) d y b in
        let w = drawn d in
        let at = a.at in
        omega (arith, e, w, at, le)

    enable_plain : M ≡ 0 → masks ≡ 0 → Run c x
    enable_plain here there =
        late_runs.late_run plan kit wire word write masks reach words some size short drawn c x (enable_r a.b a.m a.off) (enable_late c x a) (same_moves gap) (plain_enable c x a here there) (λ d y b le. banks_late_there (same_moves gap) d y b)
        (λ d y b le near. plain_enable d y b here there) (λ e z b le near. plain_back e z b here there)

    off_less : (d : LogicCell) (y : ℕ) (b : IsEnable plan kit d y) → b.off < P
    off_less d y b = let e = first.enable_ends plan kit wire word write masks reach words some size short d y b in let w = drawn d in omega (arith, e, w)

    off_less_there : (e : LogicCell) (z : ℕ) (b : IsEnable other kit e z) → b.off < pair_width other kit
    off_less_there e z b = by b.kind where
      inverter : 1 ≤ kit.width Inv
      inverter = drawn Clki

      by : ((e ≡ Gn b.b b.m) × (b.off ≡ 0)) ⊎ ((e ≡ Gi b.b b.m) × (b.off ≡ enable_width other kit)) → b.off < pair_width other kit
      by (inl gate) = let z0 = gate.1 in let w = inverter in omega (arith, z0, w)
      by (inr last) = let z0 = last.1 in let w = inverter in omega (arith, z0, w)

    module _ (here : 2 ≤ M) (there : 2 ≤ masks) (i : ℕ) (v : Moves) (i_less : i < enables_of other) (moves : v.of_bank a.b i ≡ a.m) (mask_moves : v.mask i ≡ a.m) where
      abbrev x2 : ℕ
      x2 = ES' + ((a.b * enables_of other + i) * pair_width other kit + a.off)

      up : (d : LogicCell) (y : ℕ) (b : IsEnable plan kit d y) → x ≤ y → IsNearBehind reach (width c) x y → AreNext (enables_of plan) a.b a.m b.b b.m
      up d y b le near =
          let e = first.enable_ends plan kit wire word write masks reach words some size short c x a in
          let lt = near P (pair_reaches here) in
          let ax = a.at in
          let bx = b.at in
          next_pair (enables_of plan) a.b a.m b.b b.m a.less b.less (no_less ES index (b.b * enables_of plan + b.m) P b.off y bx (off_less d y b) (omega (arith, ax, le))) (fewer (b.b * enables_of plan + b.m) index P (omega (arith, e, ax, bx, lt)))

      up_there : (e : LogicCell) (z : ℕ) (b : IsEnable other kit e z) → x2 ≤ z → IsNearBehind reach (width c) x2 z → AreNext (enables_of other) a.b i b.b b.m
      up_there e z b le near =
          let pe = first.enable_ends plan kit wire word write masks reach words some size short c x a in
          let pw = same_pair in
          let lt = near (pair_width other kit) (subst (λ (n : ℕ). reach ≤ℤ pos n) same_pair (pair_reaches here)) in
          let bx = b.at in
          next_pair (enables_of other) a.b i b.b b.m i_less b.less (no_less ES' (a.b * enables_of other + i) (b.b * enables_of other + b.m) (pair_width other kit) b.off z bx (off_less_there e z b) (omega (arith, le))) (fewer (b.b * enables_of other + b.m) (a.b * enables_of other + i) (pair_width other kit) (omega (arith, pe, pw, bx, lt)))

      in_pairs : (b m off : ℕ) → ES' + ((b * enables_of other + m) * pair_width other kit + off) ≡ ES' + ((b * enables_of other + m) * P + off)
      in_pairs b m off = ap (λ (n : ℕ). ES' + ((b * enables_of other + m) * n + off)) (sym same_pair)

      put : (d : LogicCell) (y : ℕ) (b : IsEnable plan kit d y) (j : ℕ) → v.of_bank b.b j ≡ b.m → v.mask j ≡ b.m → j < enables_of other → (l m : ℕ) → index + l ≡ (a.b * enables_of other + i) + m → (b.b * enables_of plan + b.m) + l ≡ (b.b * enables_of other + j) + m → Forth v d y x x2
      put d y b j p q lt l m e f = record {
        y2 = ES' + ((b.b * enables_of other + j) * pair_width other kit + b.off);
        is = first.enable_there plan kit wire word write masks reach words some size short v d y j b p q lt;
        far = far ES ES' index (b.b * enables_of plan + b.m) (a.b * enables_of other + i) (b.b * enables_of other + j) l m P a.off b.off x y x2 (ES' + ((b.b * enables_of other + j) * pair_width other kit + b.off)) a.at b.at (in_pairs a.b i a.off) (in_pairs b.b j b.off) e f;
      }

      pull : (e : LogicCell) (z : ℕ) (b : IsEnable other kit e z) (j : ℕ) → j < enables_of plan → (l m : ℕ) → index + l ≡ (a.b * enables_of other + i) + m → (b.b * enables_of plan + j) + l ≡ (b.b * enables_of other + b.m) + m → Back e z x x2
      pull e z b j lt l m p q =
          let k = back.enable_back plan kit wire word write masks reach words some size short e z b j lt in
          record {
            d = k.d;
            y = ES + ((b.b * enables_of plan + j) * P + b.off);
            at = k.at;
            role = k.role;
            far = far ES ES' index (b.b * enables_of plan + j) (a.b * enables_of other + i) (b.b * enables_of other + b.m) l m P a.off b.off x (ES + ((b.b * enables_of plan + j) * P + b.off)) x2 z a.at refl (in_pairs a.b i a.off) (b.at ∙ in_pairs b.b b.m b.off) p q;
          }

      late_x : x ≡ S + ((N + M) * D + enable_r a.b a.m a.off)
      late_x = enable_late c x a

      late_x2 : x2 ≡ S' + ((N' + masks) * D + (total_width other kit (banks_cells other other.bank_bits) + ((a.b * enables_of other + i) * pair_width other kit + a.off)))
      late_x2 = omega arith

      banks_before_there : (e : LogicCell) (z : ℕ) → BanksThere e z → x2 ≤ z → ⊥
      banks_before_there e z b le =
          let h = back.ends_there plan kit wire word write masks reach words some size short (banks_cells other other.bank_bits) (banks_start other kit) e z b in
          let w = drawn e in
          omega (arith, h, w, le)

      enable_run : ((d : LogicCell) (y : ℕ) (b : IsEnable plan kit d y) → AreNext (enables_of plan) a.b a.m b.b b.m → Forth v d y x x2) → ((e : LogicCell) (z : ℕ) (b : IsEnable other kit e z) → AreNext (enables_of other) a.b i b.b b.m → Back e z x x2) → Run c x
      enable_run to from = record {
        moves = v;
        x2 = x2;
        begins = λ none. absurd (never_first x ((N + M) * D + enable_r a.b a.m a.off) late_x none);
        forth = λ d y at le near. forth d y (place_is plan kit d y at) le near;
        back = λ e z at le near. backward e z (place_is other kit e z at) le near;
      } where
        forth : (d : LogicCell) (y : ℕ) → IsInRow plan kit d y → x ≤ y → IsNearBehind reach (width c) x y → Forth v d y x x2
        forth d y (inl b) le near = absurd (begin_before d x y ((N + M) * D + enable_r a.b a.m a.off) b late_x le)
        forth d y (inr (inl b)) le near = absurd (flops_before x (enable_r a.b a.m a.off) y b.i late_x le b.at (let l = b.less in omega (arith, l)))
        forth d y (inr (inr (inl b))) le near = absurd (flops_before x (enable_r a.b a.m a.off) y (N + b.m) late_x le b.at (let l = b.less in omega (arith, l)))
        forth d y (inr (inr (inr (inl b)))) le near = absurd (banks_before d y b le)
        forth d y (inr (inr (inr (inr b)))) le near = to d y b (up d y b le near)

        backward : (e : LogicCell) (z : ℕ) → IsInRow other kit e z → x2 ≤ z → IsNearBehind reach (width c) x2 z → Back e z x x2
        backward e z (inl b) le near = absurd (begin_before_there e x2 z ((N' + masks) * D + (total_width other kit (banks_cells other other.bank_bits) + ((a.b * enables_of other + i) * pair_width other kit + a.off))) b late_x2 le)
        backward e z (inr (inl b)) le near = absurd (flops_before_there x2 _ z b.i late_x2 le b.at (let l = b.less in omega (arith, l)))
        backward e z (inr (inr (inl b))) le near = absurd (flops_before_there x2 _ z (N' + b.m) late_x2 le b.at (let l = b.less in omega (arith, l)))
        backward e z (inr (inr (inr (inl b)))) le near = absurd (banks_before_there e z b le)
        backward e z (inr (inr (inr (inr b)))) le near = from e z b (up_there e z b le near)

    -- not the last of its bank: the first of the bank there
    first_run : (here : 2 ≤ M) (there : 2 ≤ masks) → a.m + 1 < enables_of plan → Run c x
    first_run here there more = enable_run here there 0 (shift_moves a.m) (let k = enables_count.1 there in omega (arith, k, there)) (omega arith) (omega arith) to from where
      same_e : index + (a.b * enables_of other) ≡ (a.b * enables_of other + 0) + index
      same_e = omega arith

      to : (d : LogicCell) (y : ℕ) (b : IsEnable plan kit d y) → AreNext (enables_of plan) a.b a.m b.b b.m → Forth (shift_moves a.m) d y x (ES' + ((a.b * enables_of other + 0) * pair_width other kit + a.off))
      to d y b next = by next.which where
        in_bank : a.b ≡ b.b → (j : ℕ) → b.m ≡ j + a.m → j < 2 → Forth (shift_moves a.m) d y x (ES' + ((a.b * enables_of other + 0) * pair_width other kit + a.off))
        in_bank same j e lt =
            let p = ap (λ (k : ℕ). k * enables_of plan) same in
            let q = ap (λ (k : ℕ). k * enables_of other) same in
            put here there 0 (shift_moves a.m) (let k = enables_count.1 there in omega (arith, k, there)) (omega arith) (omega arith) d y b j (sym e) (sym e) (let k = enables_count.1 there in omega (arith, k, there, lt)) (a.b * enables_of other) index same_e (omega (arith, p, q, e))

        by : ((a.b ≡ b.b) × (a.m ≡ b.m)) ⊎ (((a.b ≡ b.b) × (a.m + 1 ≡ b.m)) ⊎ ((a.b + 1 ≡ b.b) × (a.m + 1 ≡ enables_of plan) × (b.m ≡ 0))) → Forth (shift_moves a.m) d y x (ES' + ((a.b * enables_of other + 0) * pair_width other kit + a.off))
        by (inl same) = let e = same.1 in in_bank same.0 0 (omega (arith, e)) (omega arith)
        by (inr (inl up)) = let e = up.1 in in_bank up.0 1 (omega (arith, e)) (omega arith)
        by (inr (inr over)) = let e = over.1 in absurd (omega (arith, e, more))

      from : (e : LogicCell) (z : ℕ) (b : IsEnable other kit e z) → AreNext (enables_of other) a.b 0 b.b b.m → Back e z x (ES' + ((a.b * enables_of other + 0) * pair_width other kit + a.off))
      from e z b next = by next.which where
        in_bank : a.b ≡ b.b → b.m < 2 → Back e z x (ES' + ((a.b * enables_of other + 0) * pair_width other kit + a.off))
        in_bank same lt =
            let p = ap (λ (k : ℕ). k * enables_of plan) same in
            let q = ap (λ (k : ℕ). k * enables_of other) same in
            pull here there 0 (shift_moves a.m) (let k = enables_count.1 there in omega (arith, k, there)) (omega arith) (omega arith) e z b (b.m + a.m) (omega (arith, lt, more)) (a.b * enables_of other) index same_e (omega (arith, p, q))

        by : ((a.b ≡ b.b) × (0 ≡ b.m)) ⊎ (((a.b ≡ b.b) × (0 + 1 ≡ b.m)) ⊎ ((a.b + 1 ≡ b.b) × (0 + 1 ≡ enables_of other) × (b.m ≡ 0))) → Back e z x (ES' + ((a.b * enables_of other + 0) * pair_width other kit + a.off))
        by (inl same) = let e = same.1 in in_bank same.0 (omega (arith, e))
        by (inr (inl up)) = let e = up.1 in in_bank up.0 (omega (arith, e))
        by (inr (inr over)) = let e = over.1 in let k = enables_count.1 there in absurd (omega (arith, e, k, there))

    -- the last of its bank: the last there
    last_run : (here : 2 ≤ M) (there : 2 ≤ masks) → a.m + 1 ≡ enables_of plan → Run c x
    last_run here there last = enable_run here there (masks - 1) last_moves less is is to from where
      less : masks - 1 < enables_of other
      less = let k = enables_count.1 there in omega (arith, k, there)

      is : last_of M (masks - 1) ≡ a.m
      is = let q = last_is M (masks - 1) (omega (arith, there)) in let k = enables_count.0 here in omega (arith, q, k, last)

      last_e : index + (a.b * enables_of other + masks) ≡ (a.b * enables_of other + (masks - 1)) + (a.b * enables_of plan + M)
      last_e = let k = enables_count.0 here in omega (arith, k, last, there)

      over_e : (b n : ℕ) → a.b + 1 ≡ b → n ≡ 0 → (b * enables_of plan + n) + (a.b * enables_of other + masks) ≡ (b * enables_of other + n) + (a.b * enables_of plan + M)
      over_e b n up z =
          let k = enables_count.0 here in
          let l = enables_count.1 there in
          let p = ap (λ (k : ℕ). k * enables_of plan) (sym up) ∙ add-mul a.b 1 (enables_of plan) in
          let q = ap (λ (k : ℕ). k * enables_of other) (sym up) ∙ add-mul a.b 1 (enables_of other) in
          omega (arith, k, l, p, q, z)

      to : (d : LogicCell) (y : ℕ) (b : IsEnable plan kit d y) → AreNext (enables_of plan) a.b a.m b.b b.m → Forth last_moves d y x (ES' + ((a.b * enables_of other + (masks - 1)) * pair_width other kit + a.off))
      to d y b next = by next.which where
        by : ((a.b ≡ b.b) × (a.m ≡ b.m)) ⊎ (((a.b ≡ b.b) × (a.m + 1 ≡ b.m)) ⊎ ((a.b + 1 ≡ b.b) × (a.m + 1 ≡ enables_of plan) × (b.m ≡ 0))) → Forth last_moves d y x (ES' + ((a.b * enables_of other + (masks - 1)) * pair_width other kit + a.off))
        by (inl same) =
            let e = same.1 in
            let p = ap (λ (k : ℕ). k * enables_of plan) same.0 in
            let q = ap (λ (k : ℕ). k * enables_of other) same.0 in
            let f = last_e in
            put here there (masks - 1) last_moves less is is d y b (masks - 1) (is ∙ e) (is ∙ e) less (a.b * enables_of other + masks) (a.b * enables_of plan + M) last_e (omega (arith, f, e, p, q))
        by (inr (inl up)) = let e = up.1 in let l = b.less in absurd (omega (arith, e, l, last))
        by (inr (inr over)) = let z = over.2 in put here there (masks - 1) last_moves less is is d y b 0 (sym z) (sym z) (let k = less in omega (arith, k)) (a.b * enables_of other + masks) (a.b * enables_of plan + M) last_e (let o = over_e b.b 0 over.0 refl in omega (arith, o, z))

      from : (e : LogicCell) (z : ℕ) (b : IsEnable other kit e z) → AreNext (enables_of other) a.b (masks - 1) b.b b.m → Back e z x (ES' + ((a.b * enables_of other + (masks - 1)) * pair_width other kit + a.off))
      from e z b next = by next.which where
        by : ((a.b ≡ b.b) × (masks - 1 ≡ b.m)) ⊎ (((a.b ≡ b.b) × ((masks - 1) + 1 ≡ b.m)) ⊎ ((a.b + 1 ≡ b.b) × ((masks - 1) + 1 ≡ enables_of other) × (b.m ≡ 0))) → Back e z x (ES' + ((a.b * enables_of other + (masks - 1)) * pair_width other kit + a.off))
        by (inl same) =
            let e1 = same.1 in
            let p = ap (λ (k : ℕ). k * enables_of plan) same.0 in
            let q = ap (λ (k : ℕ). k * enables_of other) same.0 in
            let f = last_e in
            pull here there (masks - 1) last_moves less is is e z b a.m a.less (a.b * enables_of other + masks) (a.b * enables_of plan + M) last_e (omega (arith, f, e1, p, q))
        by (inr (inl up)) = let e1 = up.1 in let l = b.less in let k = enables_count.1 there in absurd (omega (arith, e1, l, k, there))
        by (inr (inr over)) = let n = over.2 in pull here there (masks - 1) last_moves less is is e z b 0 (let l = a.less in omega (arith, l)) (a.b * enables_of other + masks) (a.b * enables_of plan + M) last_e (let o = over_e b.b 0 over.0 refl in omega (arith, o, n))

    pub gate_run : Run c x
    gate_run = by size.masks_are where
      by : Masks → Run c x
      by (inl none) = enable_plain none.0 none.1
      by (inr more) = elim (cases_lt (a.m + 1) (enables_of plan)) [
        | inl less ↦ first_run more.0 more.1 less
        | inr ge ↦ last_run more.0 more.1 (let l = a.less in omega (arith, ge, l))
      ]
