-- Two cells of the logic row that stand near each other stand so in a small memory, and their nets move alike.
use Rattle.std.proofs.Common.{◌≡◌, ◌⊎◌, inl, inr, ℕ, ◌+◌, ◌-◌, ◌*◌, ◌<◌, ◌≤◌, ℤ, pos, ◌≤ℤ◌, refl, sym, ap, arith}
use Rattle.std.proofs.lemmas.Bool.{cases_lt}
use Rattle.std.proofs.Math.Nat.{add-mul}
use Rattle.cell_roles.specs.declared.role.Role.TheVariants.{Dff}
use Rattle.tech_rules.specs.declared.tech.Wire.{Wire}
use Rattle.sram_netlist.specs.Organization.{Organization, inputs_of}
use Rattle.sram_netlist.specs.Instances.{LogicCell}
use Rattle.sram_netlist.specs.InstanceList.{banks_cells}
use Rattle.sram_netlist.specs.Netlist.{logic_role, enables_of}
use Rattle.macro_layout.specs.LayoutKit.{LayoutKit}
use Rattle.macro_layout.specs.Places.{total_width}
use Rattle.moved_nets.specs.Moved.{Moves}
use Rattle.good_places.specs.Leaves.{ReachesNeighboursOnly}
use Rattle.good_places.specs.Windows.{with_bits}
use Rattle.good_places.proofs.CellRowLaws.{begin_cells}
use Rattle.small_rows.specs.Few.{IsFewBits}
use Rattle.small_rows.specs.Row.{IsCellAt, IsInPart, data_start, banks_start, pair_width, IsData, IsMask, IsEnable, IsInRow, IsCellThere, AreCellsSeen, AreNearCells}
use Rattle.small_rows.proofs.SteadyLaws.{no_unit, last_of, last_is}
use Rattle.small_rows.proofs.RowPlaceLaws.{place_is}
use Rattle.small_rows.proofs.InputPairLaws as first
use Rattle.small_rows.proofs.EnablePairLaws as second

module _ (plan : Organization) (kit : LayoutKit) (wire : Wire) (word write masks : ℕ) (reach : ℤ) (words : 0 < plan.word_size) (some : 0 < plan.write_size) (size : IsFewBits plan word write masks) (short : ReachesNeighboursOnly kit wire reach) where
  -- what is said before, of the same
  abbrev other : Organization
  other = with_bits plan word write masks

  abbrev D : ℕ
  D = kit.width Dff

  abbrev P : ℕ
  P = pair_width plan kit

  abbrev There : Moves → LogicCell → ℕ → ℕ → Type 0
  There v c x x2 = IsCellThere other kit D v c x x2

  abbrev Seen : LogicCell → LogicCell → ℕ → ℕ → Type 0
  Seen c d x y = AreCellsSeen other kit D c d x y

  abbrev swap : (c d : LogicCell) (x y : ℕ) → Seen d c y x → Seen c d x y
  swap = first.swap plan kit wire word write masks reach words some size short

  abbrev data_there : (v : Moves) (c : LogicCell) (x i : ℕ) (d : IsData plan kit c x) → d.i ≡ i + v.k → i < inputs_of other → There v c x (data_start other kit + i * D)
  data_there = first.data_there plan kit wire word write masks reach words some size short

  abbrev mask_there : (v : Moves) (c : LogicCell) (x m : ℕ) (d : IsMask plan kit c x) → v.mask m ≡ d.m → m < other.masks → There v c x (data_start other kit + (inputs_of other + m) * D)
  mask_there = first.mask_there plan kit wire word write masks reach words some size short

  abbrev width : LogicCell → ℕ
  width c = kit.width (logic_role plan c)

  abbrev data_wide : (c : LogicCell) (x : ℕ) → IsData plan kit c x → width c ≡ D
  data_wide = first.data_wide plan kit wire word write masks reach words some size short

  abbrev mask_wide : (c : LogicCell) (x : ℕ) → IsMask plan kit c x → width c ≡ D
  mask_wide = first.mask_wide plan kit wire word write masks reach words some size short

  abbrev wide_pair : 2 ≤ plan.masks → reach ≤ℤ pos P
  wide_pair = first.wide_pair plan kit wire word write masks reach words some size short

  -- so many masks here and there
  abbrev Masks : Type 0
  Masks = ((plan.masks ≡ 0) × (masks ≡ 0)) ⊎ ((2 ≤ plan.masks) × (2 ≤ masks) × (write ≡ 1) × (masks ≡ word))

  -- moved by all slices that the other memory has less
  abbrev gap : ℕ
  gap = inputs_of plan - inputs_of other

  abbrev gap_is : inputs_of plan ≡ inputs_of other + gap
  gap_is = first.gap_is plan kit wire word write masks reach words some size short

  abbrev last_sum : (i : ℕ) → i < inputs_of plan → inputs_of plan < i + 2 → i ≡ (inputs_of other - 1) + gap
  last_sum = first.last_sum plan kit wire word write masks reach words some size short

  abbrev last_less : inputs_of other - 1 < inputs_of other
  last_less = first.last_less plan kit wire word write masks reach words some size short

  abbrev same_moves : ℕ → Moves
  same_moves k = record { k = k; mask = λ m. m; of_bank = λ b m. m }

  abbrev last_moves : Moves
  last_moves = record { k = gap; mask = last_of plan.masks; of_bank = λ b. last_of plan.masks }

  abbrev shift_moves : ℕ → Moves
  shift_moves a = record { k = gap; mask = λ m. m + a; of_bank = λ b m. m + a }

  abbrev far : (s t i j i2 j2 l m d p r x y x2 y2 : ℕ) → x ≡ s + (i * d + p) → y ≡ s + (j * d + r) → x2 ≡ t + (i2 * d + p) → y2 ≡ t + (j2 * d + r) → i + l ≡ i2 + m → j + l ≡ j2 + m → x2 + y ≡ y2 + x
  far = first.far plan kit wire word write masks reach words some size short

  abbrev plain : (i j : ℕ) → i ≡ j → i + 0 ≡ j
  plain = first.plain plan kit wire word write masks reach words some size short

  abbrev none_behind : (s n x : ℕ) → x ≡ s + n → x ≡ s + (n + 0)
  none_behind = first.none_behind plan kit wire word write masks reach words some size short

  abbrev Near : LogicCell → LogicCell → ℕ → ℕ → Type 0
  Near c d x y = AreNearCells reach (width c) (width d) x y

  abbrev turn : (c d : LogicCell) (x y : ℕ) → Near c d x y → Near d c y x
  turn = first.turn plan kit wire word write masks reach words some size short

  abbrev units : (s i j r w x y : ℕ) → x ≡ s + i * D → y ≡ s + (j * D + r) → w ≡ D → y < (x + w) + D → j < i + 2
  units = first.units plan kit wire word write masks reach words some size short

  abbrev data_data : (c d : LogicCell) (x y : ℕ) → IsData plan kit c x → IsData plan kit d y → Near c d x y → Seen c d x y
  data_data = first.data_data plan kit wire word write masks reach words some size short

  abbrev data_mask : (c d : LogicCell) (x y : ℕ) → IsData plan kit c x → IsMask plan kit d y → Near c d x y → Seen c d x y
  data_mask = first.data_mask plan kit wire word write masks reach words some size short

  abbrev begin_begin : (c d : LogicCell) (x y : ℕ) → IsInPart plan kit (begin_cells plan) 0 c x → IsInPart plan kit (begin_cells plan) 0 d y → Seen c d x y
  begin_begin = first.begin_begin plan kit wire word write masks reach words some size short

  abbrev begin_data : (c d : LogicCell) (x y : ℕ) → IsInPart plan kit (begin_cells plan) 0 c x → IsData plan kit d y → Near c d x y → Seen c d x y
  begin_data = first.begin_data plan kit wire word write masks reach words some size short

  abbrev begin_mask : (c d : LogicCell) (x y : ℕ) → IsInPart plan kit (begin_cells plan) 0 c x → IsMask plan kit d y → Near c d x y → Seen c d x y
  begin_mask = first.begin_mask plan kit wire word write masks reach words some size short

  -- cells behind all flip-flops, so far behind them
  abbrev IsLate : ℕ → ℕ → Type 0
  IsLate x r = x ≡ data_start plan kit + ((inputs_of plan + plan.masks) * D + r)

  abbrev Banks : LogicCell → ℕ → Type 0
  Banks c x = IsInPart plan kit (banks_cells plan plan.bank_bits) (banks_start plan kit) c x

  abbrev banks_late : (c : LogicCell) (x : ℕ) (p : Banks c x) → IsLate x (total_width plan kit p.before)
  banks_late = first.banks_late plan kit wire word write masks reach words some size short

  abbrev enable_r : (c : LogicCell) (x : ℕ) → IsEnable plan kit c x → ℕ
  enable_r c x e = total_width plan kit (banks_cells plan plan.bank_bits) + ((e.b * enables_of plan + e.m) * pair_width plan kit + e.off)

  abbrev enable_late : (c : LogicCell) (x : ℕ) (e : IsEnable plan kit c x) → IsLate x (enable_r c x e)
  enable_late = first.enable_late plan kit wire word write masks reach words some size short

  abbrev begin_late : (c d : LogicCell) (x y r : ℕ) → IsInPart plan kit (begin_cells plan) 0 c x → IsLate y r → Near c d x y → Seen c d x y
  begin_late = first.begin_late plan kit wire word write masks reach words some size short

  abbrev IsLateThere : (v : Moves) (c : LogicCell) (x r : ℕ) → Type 0
  IsLateThere = first.IsLateThere plan kit wire word write masks reach words some size short

  abbrev banks_late_there : (v : Moves) (c : LogicCell) (x : ℕ) (p : Banks c x) → IsLateThere v c x (total_width plan kit p.before)
  banks_late_there = first.banks_late_there plan kit wire word write masks reach words some size short

  abbrev plain_enable : (c : LogicCell) (x : ℕ) (e : IsEnable plan kit c x) → plan.masks ≡ 0 → masks ≡ 0 → IsLateThere (same_moves gap) c x (enable_r c x e)
  plain_enable = second.plain_enable plan kit wire word write masks reach words some size short

  abbrev first_enable : (c : LogicCell) (x : ℕ) (e : IsEnable plan kit c x) → 2 ≤ masks → e.b * enables_of plan + e.m ≡ 0 → IsLateThere last_moves c x (enable_r c x e)
  first_enable = second.first_enable plan kit wire word write masks reach words some size short

  abbrev banks_banks : (c d : LogicCell) (x y : ℕ) → Banks c x → Banks d y → Seen c d x y
  banks_banks = second.banks_banks plan kit wire word write masks reach words some size short

  abbrev banks_enable : (c d : LogicCell) (x y : ℕ) → Banks c x → IsEnable plan kit d y → Near c d x y → Seen c d x y
  banks_enable = second.banks_enable plan kit wire word write masks reach words some size short

  abbrev enable_enable : (c d : LogicCell) (x y : ℕ) → IsEnable plan kit c x → IsEnable plan kit d y → Near c d x y → Seen c d x y
  enable_enable = second.enable_enable plan kit wire word write masks reach words some size short

  -- The last data bit and what stands behind all flip-flops
  data_late : (c d : LogicCell) (x y r : ℕ) → IsData plan kit c x → IsLate y r → Near c d x y → (plan.masks ≡ 0 → masks ≡ 0 → IsLateThere (same_moves gap) d y r) → Seen c d x y
  data_late c d x y r a b n there =
      let up = units (data_start plan kit) a.i (inputs_of plan + plan.masks) r (width c) x y a.at b (data_wide c x a) (n.before D short.dff) in
      let l = a.less in
      let here : plan.masks ≡ 0 = omega (arith, up, l) in
      let k : masks ≡ 0 = none_there size.masks_are here in
      let t = there here k in
      let sum = last_sum a.i l (omega (arith, up)) in
      let g = gap_is in
      record {
        moves = same_moves gap;
        x2 = data_start other kit + (inputs_of other - 1) * D;
        y2 = t.x2;
        one = data_there (same_moves gap) c x (inputs_of other - 1) a sum last_less;
        two = t.is;
        as_far = far (data_start plan kit) (data_start other kit) a.i (inputs_of plan + plan.masks) (inputs_of other - 1) (inputs_of other + masks) 0 gap D 0 r x y _ t.x2 (none_behind _ _ x a.at) b (none_behind _ _ _ refl) t.at (plain _ _ sum) (omega (arith, here, k, g));
      }
    where
      none_there : Masks → plan.masks ≡ 0 → masks ≡ 0
      none_there (inl none) z = none.1
      none_there (inr more) z = let t = more.0 in absurd (omega (arith, t, z))

  data_banks : (c d : LogicCell) (x y : ℕ) → IsData plan kit c x → Banks d y → Near c d x y → Seen c d x y
  data_banks c d x y a b n = data_late c d x y (total_width plan kit b.before) a (banks_late d y b) n (λ here there. banks_late_there (same_moves gap) d y b)

  data_enable : (c d : LogicCell) (x y : ℕ) → IsData plan kit c x → IsEnable plan kit d y → Near c d x y → Seen c d x y
  data_enable c d x y a b n = data_late c d x y (enable_r d y b) a (enable_late d y b) n (λ here there. plain_enable d y b here there)

  -- Two masks
  mask_up : (c d : LogicCell) (x y : ℕ) (a : IsMask plan kit c x) (b : IsMask plan kit d y) → (b.m ≡ a.m) ⊎ (b.m ≡ a.m + 1) → 2 ≤ masks → Seen c d x y
  mask_up c d x y a b next two = by next where
    put : (j : ℕ) → b.m ≡ j + a.m → j < masks → Seen c d x y
    put j r lj = record {
      moves = shift_moves a.m;
      x2 = data_start other kit + (inputs_of other + 0) * D;
      y2 = data_start other kit + (inputs_of other + j) * D;
      one = mask_there (shift_moves a.m) c x 0 a (omega arith) (omega (arith, two));
      two = mask_there (shift_moves a.m) d y j b (sym r) lj;
      as_far = (let g = gap_is in
          far (data_start plan kit) (data_start other kit) (inputs_of plan + a.m) (inputs_of plan + b.m) (inputs_of other + 0) (inputs_of other + j) 0 (gap + a.m) D 0 0 x y _ _ (none_behind _ _ x a.at) (none_behind _ _ y b.at) (none_behind _ _ _ refl) (none_behind _ _ _ refl) (omega (arith, g)) (omega (arith, g, r)));
    }

    by : (b.m ≡ a.m) ⊎ (b.m ≡ a.m + 1) → Seen c d x y
    by (inl same) = put 0 (omega (arith, same)) (omega (arith, two))
    by (inr more) = put 1 (omega (arith, more)) (omega (arith, two))

  some_masks : Masks → (m : ℕ) → m < plan.masks → (2 ≤ plan.masks) × (2 ≤ masks)
  some_masks (inl none) m lt = let z = none.0 in absurd (omega (arith, z, lt))
  some_masks (inr more) m lt = (more.0, more.1)

  mask_mask : (c d : LogicCell) (x y : ℕ) → IsMask plan kit c x → IsMask plan kit d y → Near c d x y → Seen c d x y
  mask_mask c d x y a b n =
      let up = units (data_start plan kit) (inputs_of plan + a.m) (inputs_of plan + b.m) 0 (width c) x y a.at (none_behind _ _ y b.at) (mask_wide c x a) (n.before D short.dff) in
      let down = units (data_start plan kit) (inputs_of plan + b.m) (inputs_of plan + a.m) 0 (width d) y x b.at (none_behind _ _ x a.at) (mask_wide d y b) (n.behind D short.dff) in
      let two = (some_masks size.masks_are a.m a.less).1 in
      elim (cases_lt b.m a.m) [
        | inl before ↦ swap c d x y (mask_up d c y x b a (inr (omega (arith, before, down))) two)
        | inr from ↦ mask_up c d x y a b (which a.m b.m from (omega (arith, up))) two
      ]
    where
      which : (i j : ℕ) → i ≤ j → j < i + 2 → (j ≡ i) ⊎ (j ≡ i + 1)
      which i j le lt = elim (cases_lt i j) [ inl less ↦ inr (omega (arith, less, lt)) | inr ge ↦ inl (omega (arith, le, ge)) ]

  -- The last mask and what stands behind
  mask_late : (c d : LogicCell) (x y r : ℕ) (a : IsMask plan kit c x) → IsLate y r → Near c d x y → 2 ≤ masks → (a.m + 1 ≡ plan.masks → IsLateThere last_moves d y r) → Seen c d x y
  mask_late c d x y r a b n two there =
      let up = units (data_start plan kit) (inputs_of plan + a.m) (inputs_of plan + plan.masks) r (width c) x y a.at b (mask_wide c x a) (n.before D short.dff) in
      let l = a.less in
      let last : a.m + 1 ≡ plan.masks = omega (arith, up, l) in
      let t = there last in
      let e = last_is plan.masks (masks - 1) (omega (arith, two)) in
      record {
        moves = last_moves;
        x2 = data_start other kit + (inputs_of other + (masks - 1)) * D;
        y2 = t.x2;
        one = mask_there last_moves c x (masks - 1) a (omega (arith, e, last)) (omega (arith, two));
        two = t.is;
        as_far = far (data_start plan kit) (data_start other kit) (inputs_of plan + a.m) (inputs_of plan + plan.masks) (inputs_of other + (masks - 1)) (inputs_of other + masks) (inputs_of other + masks) (inputs_of plan + plan.masks) D 0 r x y _ t.x2
            (none_behind _ _ x a.at) b (none_behind _ _ _ refl) t.at (omega (arith, last, two)) (omega arith);
      }

  mask_banks : (c d : LogicCell) (x y : ℕ) → IsMask plan kit c x → Banks d y → Near c d x y → Seen c d x y
  mask_banks c d x y a b n = mask_late c d x y (total_width plan kit b.before) a (banks_late d y b) n (some_masks size.masks_are a.m a.less).1 (λ last. banks_late_there last_moves d y b)

  mask_enable : (c d : LogicCell) (x y : ℕ) → IsMask plan kit c x → IsEnable plan kit d y → Near c d x y → Seen c d x y
  mask_enable c d x y a b n =
      let two = some_masks size.masks_are a.m a.less in
      let lt = n.before P (wide_pair two.0) in
      mask_late c d x y (enable_r d y b) a (enable_late d y b) n two.1 (λ last. first_enable d y b two.1 (no_unit (b.b * enables_of plan + b.m) P (close last lt)))
    where
      close : a.m + 1 ≡ plan.masks → y < (x + width c) + P → (b.b * enables_of plan + b.m) * P < P
      close last lt =
          let ml = ap (λ (n : ℕ). (inputs_of plan + n) * D) last in
          let p = add-mul (inputs_of plan + a.m) 1 D in
          let q : (inputs_of plan + (a.m + 1)) * D ≡ ((inputs_of plan + a.m) + 1) * D = ap (λ (n : ℕ). n * D) (let h : inputs_of plan + (a.m + 1) ≡ (inputs_of plan + a.m) + 1 = omega arith in h) in
          let wd = mask_wide c x a in
          let ax = a.at in
          let bx = b.at in
          omega (arith, ml, p, q, wd, ax, bx, lt)

  -- Two cells that are near
  in_order : (c d : LogicCell) (x y : ℕ) → IsInRow plan kit c x → IsInRow plan kit d y → Near c d x y → Seen c d x y
  in_order c d x y (inl a) (inl b) n = begin_begin c d x y a b
  in_order c d x y (inl a) (inr (inl b)) n = begin_data c d x y a b n
  in_order c d x y (inl a) (inr (inr (inl b))) n = begin_mask c d x y a b n
  in_order c d x y (inl a) (inr (inr (inr (inl b)))) n = begin_late c d x y (total_width plan kit b.before) a (banks_late d y b) n
  in_order c d x y (inl a) (inr (inr (inr (inr b)))) n = begin_late c d x y (enable_r d y b) a (enable_late d y b) n
  in_order c d x y (inr (inl a)) (inl b) n = swap c d x y (begin_data d c y x b a (turn c d x y n))
  in_order c d x y (inr (inl a)) (inr (inl b)) n = data_data c d x y a b n
  in_order c d x y (inr (inl a)) (inr (inr (inl b))) n = data_mask c d x y a b n
  in_order c d x y (inr (inl a)) (inr (inr (inr (inl b)))) n = data_banks c d x y a b n
  in_order c d x y (inr (inl a)) (inr (inr (inr (inr b)))) n = data_enable c d x y a b n
  in_order c d x y (inr (inr (inl a))) (inl b) n = swap c d x y (begin_mask d c y x b a (turn c d x y n))
  in_order c d x y (inr (inr (inl a))) (inr (inl b)) n = swap c d x y (data_mask d c y x b a (turn c d x y n))
  in_order c d x y (inr (inr (inl a))) (inr (inr (inl b))) n = mask_mask c d x y a b n
  in_order c d x y (inr (inr (inl a))) (inr (inr (inr (inl b)))) n = mask_banks c d x y a b n
  in_order c d x y (inr (inr (inl a))) (inr (inr (inr (inr b)))) n = mask_enable c d x y a b n
  in_order c d x y (inr (inr (inr (inl a)))) (inl b) n = swap c d x y (begin_late d c y x (total_width plan kit a.before) b (banks_late c x a) (turn c d x y n))
  in_order c d x y (inr (inr (inr (inl a)))) (inr (inl b)) n = swap c d x y (data_banks d c y x b a (turn c d x y n))
  in_order c d x y (inr (inr (inr (inl a)))) (inr (inr (inl b))) n = swap c d x y (mask_banks d c y x b a (turn c d x y n))
  in_order c d x y (inr (inr (inr (inl a)))) (inr (inr (inr (inl b)))) n = banks_banks c d x y a b
  in_order c d x y (inr (inr (inr (inl a)))) (inr (inr (inr (inr b)))) n = banks_enable c d x y a b n
  in_order c d x y (inr (inr (inr (inr a)))) (inl b) n = swap c d x y (begin_late d c y x (enable_r c x a) b (enable_late c x a) (turn c d x y n))
  in_order c d x y (inr (inr (inr (inr a)))) (inr (inl b)) n = swap c d x y (data_enable d c y x b a (turn c d x y n))
  in_order c d x y (inr (inr (inr (inr a)))) (inr (inr (inl b))) n = swap c d x y (mask_enable d c y x b a (turn c d x y n))
  in_order c d x y (inr (inr (inr (inr a)))) (inr (inr (inr (inl b)))) n = swap c d x y (banks_enable d c y x b a (turn c d x y n))
  in_order c d x y (inr (inr (inr (inr a)))) (inr (inr (inr (inr b)))) n = enable_enable c d x y a b n

  -- Two cells of the row that are near stand so in the other memory's row.
  pub cells_seen : (c d : LogicCell) (x y : ℕ) → IsCellAt plan kit c x → IsCellAt plan kit d y → Near c d x y → Seen c d x y
  cells_seen c d x y a b n = in_order c d x y (place_is plan kit c x a) (place_is plan kit d y b) n
