-- Runs that begin in front of the flip-flops of data bits, or at one.
use Rattle.std.proofs.Common.{◌≡◌, ◌⊎◌, inl, inr, ◌∙◌, ℕ, ◌+◌, ◌-◌, ◌*◌, ◌<◌, ◌≤◌, ℤ, List, refl, sym, ap, arith}
use Rattle.std.proofs.lemmas.Bool.{cases_lt}
use Rattle.cell_roles.specs.declared.role.Role.TheVariants.{Dff}
use Rattle.tech_rules.specs.declared.tech.Wire.{Wire}
use Rattle.sram_netlist.specs.Organization.{Organization, inputs_of}
use Rattle.sram_netlist.specs.Instances.{LogicCell, Dd}
use Rattle.sram_netlist.specs.InstanceList.{banks_cells}
use Rattle.sram_netlist.specs.Netlist.{logic_role, enables_of}
use Rattle.macro_layout.specs.LayoutKit.{LayoutKit}
use Rattle.macro_layout.specs.Places.{total_width}
use Rattle.moved_nets.specs.Moved.{Moves}
use Rattle.good_places.specs.Leaves.{ReachesNeighboursOnly}
use Rattle.good_places.specs.Windows.{with_bits}
use Rattle.good_places.proofs.CellRowLaws.{begin_cells}
use Rattle.small_rows.specs.Few.{IsFewBits}
use Rattle.small_rows.specs.Row.{IsInPart, data_start, banks_start, pair_width, IsData, IsEnable, IsInRow, IsCellThere}
use Rattle.small_rows.proofs.RowPlaceLaws.{place_is, put_data}
use Rattle.small_rows.proofs.InputPairLaws as first
use Rattle.row_runs.specs.Run.{IsNearBehind, IsForth, IsBack, IsCellRun}
use Rattle.row_runs.proofs.BackLaws as back
use Rattle.row_runs.proofs.BackLaws.{no_less}

module _ (plan : Organization) (kit : LayoutKit) (wire : Wire) (word write masks : ℕ) (reach : ℤ) (words : 0 < plan.word_size) (some : 0 < plan.write_size) (size : IsFewBits plan word write masks) (short : ReachesNeighboursOnly kit wire reach) (drawn : (c : LogicCell) → 1 ≤ kit.width (logic_role plan c)) where
  abbrev other : Organization
  other = with_bits plan word write masks

  abbrev D : ℕ
  D = kit.width Dff

  abbrev S : ℕ
  S = data_start plan kit

  abbrev S' : ℕ
  S' = data_start other kit

  abbrev N : ℕ
  N = inputs_of plan

  abbrev N' : ℕ
  N' = inputs_of other

  abbrev width : LogicCell → ℕ
  width c = kit.width (logic_role plan c)

  abbrev Forth : Moves → LogicCell → ℕ → ℕ → ℕ → Type 0
  Forth v d y x x2 = IsForth other kit D v d y x x2

  abbrev Back : LogicCell → ℕ → ℕ → ℕ → Type 0
  Back e z x x2 = IsBack plan other kit e z x x2

  abbrev Run : LogicCell → ℕ → Type 0
  Run c x = IsCellRun plan other kit reach D c x

  abbrev same_moves : ℕ → Moves
  same_moves k = record { k = k; mask = λ m. m; of_bank = λ b m. m }

  abbrev start_there : S ≡ S'
  start_there = first.start_there plan kit wire word write masks reach words some size short

  abbrev no_more : (N' ≤ N) × (1 ≤ N')
  no_more = first.no_more plan kit wire word write masks reach words some size short

  abbrev begin_there : (v : Moves) (c : LogicCell) (x : ℕ) → IsInPart plan kit (begin_cells plan) 0 c x → IsCellThere other kit D v c x x
  begin_there = first.begin_there plan kit wire word write masks reach words some size short

  abbrev data_there : (v : Moves) (c : LogicCell) (x i : ℕ) (d : IsData plan kit c x) → d.i ≡ i + v.k → i < N' → IsCellThere other kit D v c x (S' + i * D)
  data_there = first.data_there plan kit wire word write masks reach words some size short

  abbrev far : (s t i j i2 j2 l m d p r x y x2 y2 : ℕ) → x ≡ s + (i * d + p) → y ≡ s + (j * d + r) → x2 ≡ t + (i2 * d + p) → y2 ≡ t + (j2 * d + r) → i + l ≡ i2 + m → j + l ≡ j2 + m → x2 + y ≡ y2 + x
  far = first.far plan kit wire word write masks reach words some size short

  abbrev none_behind : (s n x : ℕ) → x ≡ s + n → x ≡ s + (n + 0)
  none_behind = first.none_behind plan kit wire word write masks reach words some size short

  abbrev units : (s i j r w x y : ℕ) → x ≡ s + i * D → y ≡ s + (j * D + r) → w ≡ D → y < (x + w) + D → j < i + 2
  units = first.units plan kit wire word write masks reach words some size short

  abbrev part_ends : (part : List LogicCell) (start : ℕ) (c : LogicCell) (x : ℕ) → IsInPart plan kit part start c x → x + width c ≤ start + total_width plan kit part
  part_ends = first.part_ends plan kit wire word write masks reach words some size short

  abbrev ends_there : (part : List LogicCell) (start : ℕ) (e : LogicCell) (z : ℕ) → IsInPart other kit part start e z → z + width e ≤ start + total_width other kit part
  ends_there = back.ends_there plan kit wire word write masks reach words some size short

  pub some_dff : 1 ≤ D
  some_dff = drawn (Dd 0)

  -- Behind all flip-flops

  pub banks_late : (d : LogicCell) (y : ℕ) (p : IsInPart plan kit (banks_cells plan plan.bank_bits) (banks_start plan kit) d y) → y ≡ S + ((N + plan.masks) * D + total_width plan kit p.before)
  banks_late = first.banks_late plan kit wire word write masks reach words some size short

  abbrev enable_r : ℕ → ℕ → ℕ → ℕ
  enable_r b m off = total_width plan kit (banks_cells plan plan.bank_bits) + ((b * enables_of plan + m) * pair_width plan kit + off)

  pub enable_late : (d : LogicCell) (y : ℕ) (p : IsEnable plan kit d y) → y ≡ S + ((N + plan.masks) * D + enable_r p.b p.m p.off)
  enable_late d y p = let a = p.at in omega (arith, a)

  -- the same in the other row
  pub banks_late_there : (e : LogicCell) (z : ℕ) (p : IsInPart other kit (banks_cells other other.bank_bits) (banks_start other kit) e z) → z ≡ S' + ((N' + masks) * D + total_width other kit p.before)
  banks_late_there e z p = let a = p.at in omega (arith, a)

  abbrev enable_r_there : ℕ → ℕ → ℕ → ℕ
  enable_r_there b m off = total_width other kit (banks_cells other other.bank_bits) + ((b * enables_of other + m) * pair_width other kit + off)

  pub enable_late_there : (e : LogicCell) (z : ℕ) (p : IsEnable other kit e z) → z ≡ S' + ((N' + masks) * D + enable_r_there p.b p.m p.off)
  enable_late_there e z p = let a = p.at in omega (arith, a)

  -- Where begin cells stand, which no later cell's run has
  pub begin_before : (d : LogicCell) (x y r : ℕ) → IsInPart plan kit (begin_cells plan) 0 d y → x ≡ S + r → x ≤ y → ⊥
  begin_before d x y r p is le = let a = part_ends (begin_cells plan) 0 d y p in let w = drawn d in omega (arith, a, w, is, le)

  pub begin_before_there : (e : LogicCell) (x z r : ℕ) → IsInPart other kit (begin_cells other) 0 e z → x ≡ S' + r → x ≤ z → ⊥
  begin_before_there e x z r p is le = let a = ends_there (begin_cells other) 0 e z p in let w = drawn e in omega (arith, a, w, is, le)

  -- Runs of cells at the row's beginning

  module _ (c : LogicCell) (x : ℕ) (p : IsInPart plan kit (begin_cells plan) 0 c x) where
    near_first : (y j r : ℕ) → y ≡ S + (j * D + r) → IsNearBehind reach (width c) x y → 1 ≤ j → ⊥
    near_first y j r is near one = first.begin_unit plan kit wire word write masks reach words some size short c x y (width c) j r p is refl (near D short.dff) one

    inputs_some : 1 ≤ N
    inputs_some = first.inputs_some plan kit wire word write masks reach words some size short

    at_first : (i y : ℕ) → i ≡ 0 → y ≡ S + i * D → y ≡ S + 0 * D
    at_first i y z is = is ∙ ap (λ (k : ℕ). S + k * D) z

    begin_forth : (d : LogicCell) (y : ℕ) → IsInRow plan kit d y → IsNearBehind reach (width c) x y → Forth (same_moves 0) d y x x
    begin_forth d y (inl b) near = record { y2 = y; is = begin_there (same_moves 0) d y b; far = omega arith }
    begin_forth d y (inr (inl b)) near = elim (cases_lt 0 b.i) [
      | inl one ↦ absurd (near_first y b.i 0 (none_behind _ _ y b.at) near one)
      | inr none ↦
          let z : b.i ≡ 0 = omega (arith, none) in
          let s = no_more.1 in
          let at = at_first b.i y z b.at in
          let t = start_there in
          record { y2 = S' + 0 * D; is = data_there (same_moves 0) d y 0 b (omega (arith, z)) (omega (arith, s)); far = omega (arith, at, t) }
    ]
    begin_forth d y (inr (inr (inl b))) near = let s = inputs_some in absurd (near_first y (N + b.m) 0 (none_behind _ _ y b.at) near (omega (arith, s)))
    begin_forth d y (inr (inr (inr (inl b)))) near = let s = inputs_some in absurd (near_first y (N + plan.masks) (total_width plan kit b.before) (banks_late d y b) near (omega (arith, s)))
    begin_forth d y (inr (inr (inr (inr b)))) near = let s = inputs_some in absurd (near_first y (N + plan.masks) (enable_r b.b b.m b.off) (enable_late d y b) near (omega (arith, s)))

    near_there : (z j r : ℕ) → z ≡ S' + (j * D + r) → IsNearBehind reach (width c) x z → 1 ≤ j → ⊥
    near_there z j r is near one = near_first z j r (let t = start_there in omega (arith, is, t)) near one

    begin_from : (e : LogicCell) (z : ℕ) → IsInRow other kit e z → IsNearBehind reach (width c) x z → Back e z x x
    begin_from e z (inl b) near = record { d = e; y = z; at = back.begin_back plan kit wire word write masks reach words some size short e z b; role = back.role_same plan kit wire word write masks reach words some size short e; far = omega arith }
    begin_from e z (inr (inl b)) near = elim (cases_lt 0 b.i) [
      | inl one ↦ absurd (near_there z b.i 0 (none_behind _ _ z b.at) near one)
      | inr none ↦
          let n : b.i ≡ 0 = omega (arith, none) in
          let at : z ≡ S' + 0 * D = b.at ∙ ap (λ (k : ℕ). S' + k * D) n in
          let t = start_there in
          record { d = Dd 0; y = S + 0 * D; at = put_data plan kit 0 inputs_some; role = sym (ap (logic_role other) b.is); far = omega (arith, at, t) }
    ]
    begin_from e z (inr (inr (inl b))) near = let s = no_more.1 in absurd (near_there z (N' + b.m) 0 (none_behind _ _ z b.at) near (omega (arith, s)))
    begin_from e z (inr (inr (inr (inl b)))) near = let s = no_more.1 in absurd (near_there z (N' + masks) (total_width other kit b.before) (banks_late_there e z b) near (omega (arith, s)))
    begin_from e z (inr (inr (inr (inr b)))) near = let s = no_more.1 in absurd (near_there z (N' + masks) (enable_r_there b.b b.m b.off) (enable_late_there e z b) near (omega (arith, s)))

    pub begin_run : Run c x
    begin_run = record {
      moves = same_moves 0;
      x2 = x;
      begins = λ none. none;
      forth = λ d y at le near. begin_forth d y (place_is plan kit d y at) near;
      back = λ e z at le near. begin_from e z (place_is other kit e z at) near;
    }

  -- A flip-flop of a data bit that isn't the last

  module _ (c : LogicCell) (x : ℕ) (a : IsData plan kit c x) (more : a.i + 1 < N) where
    two_there : 2 ≤ N'
    two_there = by (first.few plan kit wire word write masks reach words some size short) where
      by : ((N' ≡ N) × (N' ≤ 4)) ⊎ ((N' ≡ 4) × (4 ≤ N)) → 2 ≤ N'
      by (inl all) = let e = all.0 in omega (arith, e, more)
      by (inr four) = let e = four.0 in omega (arith, e)

    abbrev v : Moves
    v = same_moves a.i

    abbrev x2 : ℕ
    x2 = S' + 0 * D

    up : (y j r : ℕ) → y ≡ S + (j * D + r) → IsNearBehind reach (width c) x y → j < a.i + 2
    up y j r is near = units S a.i j r (width c) x y a.at is (ap width a.is) (near D short.dff)

    up_there : (z j r : ℕ) → z ≡ S' + (j * D + r) → IsNearBehind reach (width c) x2 z → j < 0 + 2
    up_there z j r is near = units S' 0 j r (width c) x2 z refl is (ap width a.is) (near D short.dff)

    data_forth : (d : LogicCell) (y : ℕ) → IsInRow plan kit d y → x ≤ y → IsNearBehind reach (width c) x y → Forth v d y x x2
    data_forth d y (inl b) le near = absurd (begin_before d x y (a.i * D) b a.at le)
    data_forth d y (inr (inl b)) le near =
        let u = up y b.i 0 (none_behind _ _ y b.at) near in
        let l = no_less S a.i b.i D 0 y (none_behind _ _ y b.at) (let w = some_dff in omega (arith, w)) (let e = a.at in omega (arith, e, le)) in
        let two = two_there in
        record {
          y2 = S' + (b.i - a.i) * D;
          is = data_there v d y (b.i - a.i) b (omega (arith, l)) (omega (arith, u, two));
          far = far S S' a.i b.i 0 (b.i - a.i) 0 a.i D 0 0 x y x2 (S' + (b.i - a.i) * D) (none_behind _ _ x a.at) (none_behind _ _ y b.at) (none_behind _ _ _ refl) (none_behind _ _ _ refl) (omega arith) (omega (arith, l));
        }
    data_forth d y (inr (inr (inl b))) le near = let u = up y (N + b.m) 0 (none_behind _ _ y b.at) near in absurd (omega (arith, u, more))
    data_forth d y (inr (inr (inr (inl b)))) le near = let u = up y (N + plan.masks) (total_width plan kit b.before) (banks_late d y b) near in absurd (omega (arith, u, more))
    data_forth d y (inr (inr (inr (inr b)))) le near = let u = up y (N + plan.masks) (enable_r b.b b.m b.off) (enable_late d y b) near in absurd (omega (arith, u, more))

    data_from : (e : LogicCell) (z : ℕ) → IsInRow other kit e z → x2 ≤ z → IsNearBehind reach (width c) x2 z → Back e z x x2
    data_from e z (inl b) le near = absurd (begin_before_there e x2 z (0 * D) b refl le)
    data_from e z (inr (inl b)) le near =
        let u = up_there z b.i 0 (none_behind _ _ z b.at) near in
        record {
          d = Dd (b.i + a.i);
          y = S + (b.i + a.i) * D;
          at = put_data plan kit (b.i + a.i) (omega (arith, u, more));
          role = sym (ap (logic_role other) b.is);
          far = far S S' a.i (b.i + a.i) 0 b.i 0 a.i D 0 0 x (S + (b.i + a.i) * D) x2 z (none_behind _ _ x a.at) (none_behind _ _ _ refl) (none_behind _ _ _ refl) (none_behind _ _ z b.at) (omega arith) (omega arith);
        }
    data_from e z (inr (inr (inl b))) le near = let u = up_there z (N' + b.m) 0 (none_behind _ _ z b.at) near in let two = two_there in absurd (omega (arith, u, two))
    data_from e z (inr (inr (inr (inl b)))) le near = let u = up_there z (N' + masks) (total_width other kit b.before) (banks_late_there e z b) near in let two = two_there in absurd (omega (arith, u, two))
    data_from e z (inr (inr (inr (inr b)))) le near = let u = up_there z (N' + masks) (enable_r_there b.b b.m b.off) (enable_late_there e z b) near in let two = two_there in absurd (omega (arith, u, two))

    pub data_run : Run c x
    data_run = record {
      moves = v;
      x2 = x2;
      begins = λ none. absurd (let w = first.start_wide plan kit wire word write masks reach words some size short in let d = some_dff in let s = start_there in let e = a.at in omega (arith, none, w, d, s, e));
      forth = λ d y at le near. data_forth d y (place_is plan kit d y at) le near;
      back = λ e z at le near. data_from e z (place_is other kit e z at) le near;
    }
