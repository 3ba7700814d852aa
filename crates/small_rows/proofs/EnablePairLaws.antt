-- Cells of the logic row that make enables, and what stands beside them, stand so in a small memory.
use Rattle.std.proofs.Common.{◌≡◌, ◌⊎◌, inl, inr, ◌∙◌, ℕ, zero, suc, ◌+◌, ◌-◌, ◌*◌, ◌<◌, ◌≤◌, ℤ, pos, ◌≤ℤ◌, List, refl, sym, ap, arith}
use Rattle.std.proofs.lemmas.Bool.{cases_lt}
use Rattle.std.proofs.Math.Nat.{add-mul}
use Rattle.cell_roles.specs.declared.role.Role.TheVariants.{Dff}
use Rattle.tech_rules.specs.declared.tech.Wire.{Wire}
use Rattle.sram_netlist.specs.Organization.{Organization, inputs_of}
use Rattle.sram_netlist.specs.Instances.{LogicCell}
use Rattle.sram_netlist.specs.InstanceList.{banks_cells}
use Rattle.sram_netlist.specs.Netlist.{logic_role, enables_of, enable_count}
use Rattle.macro_layout.specs.LayoutKit.{LayoutKit}
use Rattle.macro_layout.specs.Places.{total_width}
use Rattle.moved_nets.specs.Moved.{Moves}
use Rattle.good_places.specs.Leaves.{ReachesNeighboursOnly}
use Rattle.good_places.specs.Windows.{with_bits}
use Rattle.small_rows.specs.Few.{IsFewBits}
use Rattle.small_rows.specs.Row.{IsInPart, data_start, banks_start, enables_start, pair_width, IsEnable, IsCellThere, AreCellsSeen, AreNearCells}
use Rattle.small_rows.proofs.SteadyLaws.{one_unit, fewer, no_unit, last_of, last_is, AreNext, next_pair}
use Rattle.small_rows.proofs.InputPairLaws as first

module _ (plan : Organization) (kit : LayoutKit) (wire : Wire) (word write masks : ℕ) (reach : ℤ) (words : 0 < plan.word_size) (some : 0 < plan.write_size) (size : IsFewBits plan word write masks) (short : ReachesNeighboursOnly kit wire reach) where
  -- what is said before, of the same
  abbrev other : Organization
  other = with_bits plan word write masks

  abbrev D : ℕ
  D = kit.width Dff

  abbrev P : ℕ
  P = pair_width plan kit

  abbrev pair_there : pair_width plan kit ≡ pair_width other kit
  pair_there = first.pair_there plan kit wire word write masks reach words some size short

  abbrev There : Moves → LogicCell → ℕ → ℕ → Type 0
  There v c x x2 = IsCellThere other kit D v c x x2

  abbrev Seen : LogicCell → LogicCell → ℕ → ℕ → Type 0
  Seen c d x y = AreCellsSeen other kit D c d x y

  abbrev swap : (c d : LogicCell) (x y : ℕ) → Seen d c y x → Seen c d x y
  swap = first.swap plan kit wire word write masks reach words some size short

  abbrev enable_x : ℕ → ℕ → ℕ → ℕ
  enable_x b m off = enables_start other kit + ((b * enables_of other + m) * pair_width other kit + off)

  abbrev enable_there : (v : Moves) (c : LogicCell) (x m : ℕ) (e : IsEnable plan kit c x) → v.of_bank e.b m ≡ e.m → v.mask m ≡ e.m → m < enables_of other → There v c x (enable_x e.b m e.off)
  enable_there = first.enable_there plan kit wire word write masks reach words some size short

  abbrev width : LogicCell → ℕ
  width c = kit.width (logic_role plan c)

  abbrev part_ends : (part : List LogicCell) (start : ℕ) (c : LogicCell) (x : ℕ) → IsInPart plan kit part start c x → x + width c ≤ start + total_width plan kit part
  part_ends = first.part_ends plan kit wire word write masks reach words some size short

  abbrev enable_ends : (c : LogicCell) (x : ℕ) (e : IsEnable plan kit c x) → e.off + width c ≤ P
  enable_ends = first.enable_ends plan kit wire word write masks reach words some size short

  abbrev wide_pair : 2 ≤ plan.masks → reach ≤ℤ pos P
  wide_pair = first.wide_pair plan kit wire word write masks reach words some size short

  -- so many masks here and there
  abbrev Masks : Type 0
  Masks = ((plan.masks ≡ 0) × (masks ≡ 0)) ⊎ ((2 ≤ plan.masks) × (2 ≤ masks) × (write ≡ 1) × (masks ≡ word))

  abbrev enables_here : enables_of plan ≡ enable_count plan.masks
  enables_here = first.enables_here plan kit wire word write masks reach words some size short

  abbrev enables_there : enables_of other ≡ enable_count masks
  enables_there = first.enables_there plan kit wire word write masks reach words some size short

  abbrev one_enable : (m : ℕ) → m ≡ 0 → enable_count m ≡ 1
  one_enable = first.one_enable plan kit wire word write masks reach words some size short

  abbrev each_enable : (m : ℕ) → 2 ≤ m → enable_count m ≡ m
  each_enable = first.each_enable plan kit wire word write masks reach words some size short

  -- moved by all slices that the other memory has less
  abbrev gap : ℕ
  gap = inputs_of plan - inputs_of other

  abbrev same_moves : ℕ → Moves
  same_moves k = record { k = k; mask = λ m. m; of_bank = λ b m. m }

  abbrev last_moves : Moves
  last_moves = record { k = gap; mask = last_of plan.masks; of_bank = λ b. last_of plan.masks }

  abbrev shift_moves : ℕ → Moves
  shift_moves a = record { k = gap; mask = λ m. m + a; of_bank = λ b m. m + a }

  abbrev far : (s t i j i2 j2 l m d p r x y x2 y2 : ℕ) → x ≡ s + (i * d + p) → y ≡ s + (j * d + r) → x2 ≡ t + (i2 * d + p) → y2 ≡ t + (j2 * d + r) → i + l ≡ i2 + m → j + l ≡ j2 + m → x2 + y ≡ y2 + x
  far = first.far plan kit wire word write masks reach words some size short

  abbrev Near : LogicCell → LogicCell → ℕ → ℕ → Type 0
  Near c d x y = AreNearCells reach (width c) (width d) x y

  -- cells behind all flip-flops, so far behind them
  abbrev IsLate : ℕ → ℕ → Type 0
  IsLate x r = x ≡ data_start plan kit + ((inputs_of plan + plan.masks) * D + r)

  abbrev Banks : LogicCell → ℕ → Type 0
  Banks c x = IsInPart plan kit (banks_cells plan plan.bank_bits) (banks_start plan kit) c x

  abbrev banks_late : (c : LogicCell) (x : ℕ) (p : Banks c x) → IsLate x (total_width plan kit p.before)
  banks_late = first.banks_late plan kit wire word write masks reach words some size short

  abbrev enable_r : (c : LogicCell) (x : ℕ) → IsEnable plan kit c x → ℕ
  enable_r c x e = total_width plan kit (banks_cells plan plan.bank_bits) + ((e.b * enables_of plan + e.m) * pair_width plan kit + e.off)

  abbrev enable_late : (c : LogicCell) (x : ℕ) (e : IsEnable plan kit c x) → IsLate x (enable_r c x e)
  enable_late = first.enable_late plan kit wire word write masks reach words some size short

  abbrev IsLateThere : (v : Moves) (c : LogicCell) (x r : ℕ) → Type 0
  IsLateThere = first.IsLateThere plan kit wire word write masks reach words some size short

  abbrev banks_late_there : (v : Moves) (c : LogicCell) (x : ℕ) (p : Banks c x) → IsLateThere v c x (total_width plan kit p.before)
  banks_late_there = first.banks_late_there plan kit wire word write masks reach words some size short

  abbrev enable_late_there : (v : Moves) (c : LogicCell) (x m : ℕ) (e : IsEnable plan kit c x) → v.of_bank e.b m ≡ e.m → v.mask m ≡ e.m → m < enables_of other → e.b * enables_of plan + e.m ≡ e.b * enables_of other + m → IsLateThere v c x (enable_r c x e)
  enable_late_there = first.enable_late_there plan kit wire word write masks reach words some size short

  abbrev late_late : (v : Moves) (c d : LogicCell) (x y r q : ℕ) → IsLate x r → IsLate y q → IsLateThere v c x r → IsLateThere v d y q → Seen c d x y
  late_late = first.late_late plan kit wire word write masks reach words some size short

  -- where there are no masks all that stands behind is as it is
  pub plain_enable : (c : LogicCell) (x : ℕ) (e : IsEnable plan kit c x) → plan.masks ≡ 0 → masks ≡ 0 → IsLateThere (same_moves gap) c x (enable_r c x e)
  plain_enable c x e here there =
      let p = enables_here ∙ one_enable plan.masks here in
      let q = enables_there ∙ one_enable masks there in
      let l = e.less in
      enable_late_there (same_moves gap) c x e.m e refl refl (omega (arith, p, q, l)) (ap (λ (n : ℕ). e.b * n + e.m) (p ∙ sym q))

  -- where there are masks, the first of the enables
  pub first_enable : (c : LogicCell) (x : ℕ) (e : IsEnable plan kit c x) → 2 ≤ masks → e.b * enables_of plan + e.m ≡ 0 → IsLateThere last_moves c x (enable_r c x e)
  first_enable c x e two none =
      let m0 : e.m ≡ 0 = omega (arith, none) in
      let q = enables_there ∙ each_enable masks two in
      let lt = e.less in
      let b0 : e.b ≡ 0 = no_unit_of e.b (enables_of plan) (omega (arith, none)) (omega (arith, lt)) in
      enable_late_there last_moves c x 0 e (sym m0) (sym m0) (omega (arith, q, two)) (none ∙ zero_there e.b b0)
    where
      no_unit_of : (b e : ℕ) → b * e ≡ 0 → 0 < e → b ≡ 0
      no_unit_of zero e is some = refl
      no_unit_of (suc b) e is some = let u = one_unit (suc b) e (omega arith) in absurd (omega (arith, u, is, some))

      zero_there : (b : ℕ) → b ≡ 0 → 0 ≡ b * enables_of other + 0
      zero_there b z = nothing (enables_of other) ∙ ap (λ (n : ℕ). n * enables_of other + 0) (sym z) where
        nothing : (e : ℕ) → 0 ≡ 0 * e + 0
        nothing e = omega arith

  -- Cells of banks, and what stands behind them
  pub banks_banks : (c d : LogicCell) (x y : ℕ) → Banks c x → Banks d y → Seen c d x y
  banks_banks c d x y a b = late_late (same_moves gap) c d x y (total_width plan kit a.before) (total_width plan kit b.before) (banks_late c x a) (banks_late d y b) (banks_late_there (same_moves gap) c x a) (banks_late_there (same_moves gap) d y b)

  pub banks_enable : (c d : LogicCell) (x y : ℕ) → Banks c x → IsEnable plan kit d y → Near c d x y → Seen c d x y
  banks_enable c d x y a b n = by size.masks_are where
    by : Masks → Seen c d x y
    by (inl none) = late_late (same_moves gap) c d x y (total_width plan kit a.before) (enable_r d y b) (banks_late c x a) (enable_late d y b) (banks_late_there (same_moves gap) c x a) (plain_enable d y b none.0 none.1)
    by (inr more) =
        let lt = n.before P (wide_pair more.0) in
        let p = part_ends (banks_cells plan plan.bank_bits) (banks_start plan kit) c x a in
        let bx = b.at in
        late_late last_moves c d x y (total_width plan kit a.before) (enable_r d y b) (banks_late c x a) (enable_late d y b) (banks_late_there last_moves c x a) (first_enable d y b more.1 (no_unit (b.b * enables_of plan + b.m) P (omega (arith, lt, p, bx))))

  -- Two enables
  enable_up : (c d : LogicCell) (x y : ℕ) (a : IsEnable plan kit c x) (b : IsEnable plan kit d y) → 2 ≤ plan.masks → 2 ≤ masks → AreNext (enables_of plan) a.b a.m b.b b.m → Seen c d x y
  enable_up c d x y a b here there next = by next.which where
    count_there : enables_of other ≡ masks
    count_there = enables_there ∙ each_enable masks there

    count : enables_of plan ≡ plan.masks
    count = enables_here ∙ each_enable plan.masks here

    in_pairs : (b m off : ℕ) → enable_x b m off ≡ enables_start other kit + ((b * enables_of other + m) * P + off)
    in_pairs b m off = ap (λ (n : ℕ). enables_start other kit + ((b * enables_of other + m) * n + off)) (sym pair_there)

    put : (v : Moves) (i j l m : ℕ) → v.of_bank a.b i ≡ a.m → v.mask i ≡ a.m → v.of_bank b.b j ≡ b.m → v.mask j ≡ b.m → i < enables_of other → j < enables_of other
        → (a.b * enables_of plan + a.m) + l ≡ (a.b * enables_of other + i) + m → (b.b * enables_of plan + b.m) + l ≡ (b.b * enables_of other + j) + m → Seen c d x y
    put v i j l m p q r t li lj e f = record {
      moves = v;
      x2 = enable_x a.b i a.off;
      y2 = enable_x b.b j b.off;
      one = enable_there v c x i a p q li;
      two = enable_there v d y j b r t lj;
      as_far = far (enables_start plan kit) (enables_start other kit) (a.b * enables_of plan + a.m) (b.b * enables_of plan + b.m) (a.b * enables_of other + i) (b.b * enables_of other + j) l m P a.off b.off x y (enable_x a.b i a.off) (enable_x b.b j b.off) a.at b.at (in_pairs a.b i a.off) (in_pairs b.b j b.off) e f;
    }

    in_bank : a.b ≡ b.b → (j : ℕ) → b.m ≡ j + a.m → j < masks → Seen c d x y
    in_bank same j e lt =
        let p = ap (λ (k : ℕ). k * enables_of plan) same in
        let q = ap (λ (k : ℕ). k * enables_of other) same in
        put (shift_moves a.m) 0 j (a.b * enables_of other) (a.b * enables_of plan + a.m) (omega arith) (omega arith) (sym e) (sym e) (let k = count_there in omega (arith, k, there)) (let k = count_there in omega (arith, k, lt)) (omega arith) (omega (arith, p, q, e))

    by : ((a.b ≡ b.b) × (a.m ≡ b.m)) ⊎ (((a.b ≡ b.b) × (a.m + 1 ≡ b.m)) ⊎ ((a.b + 1 ≡ b.b) × (a.m + 1 ≡ enables_of plan) × (b.m ≡ 0))) → Seen c d x y
    by (inl same) = let e = same.1 in in_bank same.0 0 (omega (arith, e)) (omega (arith, there))
    by (inr (inl more)) = let e = more.1 in in_bank more.0 1 (omega (arith, e)) (omega (arith, there))
    by (inr (inr over)) =
        let k = count_there in
        let n = count in
        let e = over.1 in
        let z = over.2 in
        let last = last_is plan.masks (masks - 1) (omega (arith, there)) in
        let is : last_of plan.masks (masks - 1) ≡ a.m = omega (arith, last, e, n) in
        let p = ap (λ (k : ℕ). k * enables_of plan) (sym over.0) ∙ add-mul a.b 1 (enables_of plan) in
        let q = ap (λ (k : ℕ). k * enables_of other) (sym over.0) ∙ add-mul a.b 1 (enables_of other) in
        put last_moves (masks - 1) 0 (a.b * enables_of other + masks) (a.b * enables_of plan + plan.masks) is is (sym z) (sym z) (omega (arith, k, there)) (omega (arith, k, there)) (omega (arith, e, n, there)) (omega (arith, p, q, z, k, n))

  pub enable_enable : (c d : LogicCell) (x y : ℕ) → IsEnable plan kit c x → IsEnable plan kit d y → Near c d x y → Seen c d x y
  enable_enable c d x y a b n = by size.masks_are where
    close : (c d : LogicCell) (x y : ℕ) (a : IsEnable plan kit c x) (b : IsEnable plan kit d y) → y < (x + width c) + P → b.b * enables_of plan + b.m < (a.b * enables_of plan + a.m) + 2
    close c d x y a b lt = let p = enable_ends c x a in let e = a.at in let f = b.at in fewer (b.b * enables_of plan + b.m) (a.b * enables_of plan + a.m) P (omega (arith, p, e, f, lt))

    by : Masks → Seen c d x y
    by (inl none) = late_late (same_moves gap) c d x y (enable_r c x a) (enable_r d y b) (enable_late c x a) (enable_late d y b) (plain_enable c x a none.0 none.1) (plain_enable d y b none.0 none.1)
    by (inr more) =
        let w = wide_pair more.0 in
        let up = close c d x y a b (n.before P w) in
        let down = close d c y x b a (n.behind P w) in
        elim (cases_lt (b.b * enables_of plan + b.m) (a.b * enables_of plan + a.m)) [
          | inl before ↦ swap c d x y (enable_up d c y x b a more.0 more.1 (next_pair (enables_of plan) b.b b.m a.b a.m b.less a.less (omega (arith, before)) down))
          | inr from ↦ enable_up c d x y a b more.0 more.1 (next_pair (enables_of plan) a.b a.m b.b b.m a.less b.less from up)
        ]
