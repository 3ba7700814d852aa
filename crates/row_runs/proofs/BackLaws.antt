-- Cells of a small memory's logic row and those of the memory's row which they stand for; and how far cells of a row are from each other.
use Rattle.std.proofs.Common.{◌≡◌, ◌⊎◌, inl, inr, ◌∙◌, ℕ, zero, suc, ◌+◌, ◌*◌, ◌<◌, ◌≤◌, ℤ, List, [], ◌∷◌, ◌++◌, length, refl, sym, ap, subst, arith}
use Rattle.std.proofs.lemmas.Bool.{cases_lt}
use Rattle.std.proofs.Math.Nat.{mul-le-mul_right, add-mul}
use Rattle.cell_roles.specs.declared.role.Role.{Role}
use Rattle.cell_roles.specs.declared.role.Role.TheVariants.{Dff}
use Rattle.tech_rules.specs.declared.tech.Wire.{Wire}
use Rattle.sram_netlist.specs.Organization.{Organization, inputs_of}
use Rattle.sram_netlist.specs.Instances.{LogicCell, Gn, Gi}
use Rattle.sram_netlist.specs.InstanceList.{banks_cells}
use Rattle.sram_netlist.specs.Nets.{Control, Wen}
use Rattle.sram_netlist.specs.Netlist.{logic_role, enables_of, gate_of, bank_input, mask_input}
use Rattle.sram_netlist.specs.Membership.{IsGated}
use Rattle.macro_layout.specs.LayoutKit.{LayoutKit}
use Rattle.macro_layout.specs.Places.{total_width}
use Rattle.good_places.specs.Leaves.{ReachesNeighboursOnly}
use Rattle.good_places.specs.Windows.{with_bits}
use Rattle.good_places.proofs.RowLaws.{head_is}
use Rattle.good_places.proofs.CellRowLaws.{begin_cells, same_roles}
use Rattle.small_rows.specs.Few.{IsFewBits}
use Rattle.small_rows.specs.Row.{IsCellAt, IsInPart, data_start, banks_start, enables_start, enable_width, pair_width, IsEnable}
use Rattle.small_rows.proofs.RowPlaceLaws.{put_begin, put_banks, put_gate, put_inverter}
use Rattle.small_rows.proofs.InputPairLaws as first

-- units of one length from one start: what begins no earlier than one of them is in none before
pub no_less : (s i j d r y : ℕ) → y ≡ s + (j * d + r) → r < d → s + i * d ≤ y → i ≤ j
no_less s i j d r y is lt le = elim (cases_lt j i) [
  | inl less ↦ let g : (j + 1) * d ≤ i * d = mul-le-mul_right d (let h : j + 1 ≤ i = omega (arith, less) in h) in let one = add-mul j 1 d in absurd (omega (arith, is, lt, le, g, one))
  | inr ge ↦ ge
]

-- gates of enables are of one role
any_inputs : (plan : Organization) (n k bank m l : ℕ) → length (Control Wen ∷ (bank_input plan n bank ++ mask_input k m)) ≡ length (Control Wen ∷ (bank_input plan n bank ++ mask_input k l))
any_inputs plan zero zero bank m l = refl
any_inputs plan zero (suc k) bank m l = refl
any_inputs plan (suc n) zero bank m l = refl
any_inputs plan (suc n) (suc k) bank m l = refl

any_gate : (plan : Organization) (bank m l : ℕ) → logic_role plan (Gn bank m) ≡ logic_role plan (Gn bank l)
any_gate plan bank m l = ap gate_of (any_inputs plan plan.bank_bits plan.masks bank m l)

module _ (plan : Organization) (kit : LayoutKit) (wire : Wire) (word write masks : ℕ) (reach : ℤ) (words : 0 < plan.word_size) (some : 0 < plan.write_size) (size : IsFewBits plan word write masks) (short : ReachesNeighboursOnly kit wire reach) where
  abbrev other : Organization
  other = with_bits plan word write masks

  abbrev D : ℕ
  D = kit.width Dff

  abbrev start_there : data_start plan kit ≡ data_start other kit
  start_there = first.start_there plan kit wire word write masks reach words some size short

  -- a cell has one role in both
  pub role_same : (e : LogicCell) → logic_role plan e ≡ logic_role other e
  role_same e = head_is (logic_role plan e) (logic_role other e) [] [] (same_roles plan other (first.same_gates plan kit wire word write masks reach words some size short) (e ∷ []))

  pub ends_there : (part : List LogicCell) (start : ℕ) (e : LogicCell) (z : ℕ) → IsInPart other kit part start e z → z + kit.width (logic_role plan e) ≤ start + total_width other kit part
  ends_there part start e z p =
      let h = first.part_ends other kit wire word write masks reach (words_there size.few) size.written size_there short part start e z p in
      subst (λ (r : Role). z + kit.width r ≤ start + total_width other kit part) (sym (role_same e)) h
    where
      words_there : ((word ≡ plan.word_size) × (word ≤ 4)) ⊎ ((word ≡ 4) × (4 ≤ plan.word_size)) → 0 < other.word_size
      words_there (inl all) = let a = all.0 in omega (arith, a, words)
      words_there (inr four) = let a = four.0 in omega (arith, a)

      few_there : ((word ≡ plan.word_size) × (word ≤ 4)) ⊎ ((word ≡ 4) × (4 ≤ plan.word_size)) → ((word ≡ other.word_size) × (word ≤ 4)) ⊎ ((word ≡ 4) × (4 ≤ other.word_size))
      few_there (inl all) = inl (refl, all.1)
      few_there (inr four) = let a = four.0 in inl (refl, omega (arith, a))

      masks_there : ((plan.masks ≡ 0) × (masks ≡ 0)) ⊎ ((2 ≤ plan.masks) × (2 ≤ masks) × (write ≡ 1) × (masks ≡ word)) → ((other.masks ≡ 0) × (masks ≡ 0)) ⊎ ((2 ≤ other.masks) × (2 ≤ masks) × (write ≡ 1) × (masks ≡ word))
      masks_there (inl none) = inl (none.1, none.1)
      masks_there (inr more) = inr (more.1, more.1, more.2, more.3)

      size_there : IsFewBits other word write masks
      size_there = record { few = few_there size.few; written = size.written; masks_are = masks_there size.masks_are }

  -- at the row's beginning
  pub begin_back : (e : LogicCell) (z : ℕ) → IsInPart other kit (begin_cells other) 0 e z → IsCellAt plan kit e z
  begin_back e z p =
      let wide = first.wide_there plan kit wire word write masks reach words some size short p.before in
      put_begin plan kit e z (record { before = p.before; after = p.after; row = first.same_begin plan kit wire word write masks reach words some size short ∙ p.row; at = p.at ∙ ap (λ (n : ℕ). 0 + n) (sym wide) })

  -- behind all flip-flops, as far as there
  pub record IsLateBack (e : LogicCell) (r : ℕ) : Type 0 where
    pub d : LogicCell
    pub y : ℕ
    pub at : IsCellAt plan kit d y
    pub role : logic_role plan d ≡ logic_role other e
    pub late : y ≡ data_start plan kit + ((inputs_of plan + plan.masks) * D + r)

  pub banks_back : (e : LogicCell) (z : ℕ) (p : IsInPart other kit (banks_cells other other.bank_bits) (banks_start other kit) e z) → IsLateBack e (total_width other kit p.before)
  banks_back e z p =
      let wide = first.wide_there plan kit wire word write masks reach words some size short p.before in
      record {
        d = e;
        y = banks_start plan kit + total_width plan kit p.before;
        at = put_banks plan kit e (banks_start plan kit + total_width plan kit p.before) (record { before = p.before; after = p.after; row = p.row; at = refl });
        role = role_same e;
        late = omega (arith, wide);
      }

  gated_back : IsGated other → IsGated plan
  gated_back (inl banks) = inl banks
  gated_back (inr more) = by size.masks_are where
    by : ((plan.masks ≡ 0) × (masks ≡ 0)) ⊎ ((2 ≤ plan.masks) × (2 ≤ masks) × (write ≡ 1) × (masks ≡ word)) → IsGated plan
    by (inl none) = let z = none.1 in absurd (omega (arith, more, z))
    by (inr two) = let t = two.0 in inr (omega (arith, t))

  -- the gate of an enable, or the inverter behind it, for those of the enable m there
  pub record IsEnableBack (e : LogicCell) (b m off : ℕ) : Type 0 where
    pub d : LogicCell
    pub at : IsCellAt plan kit d (enables_start plan kit + ((b * enables_of plan + m) * pair_width plan kit + off))
    pub role : logic_role plan d ≡ logic_role other e

  pub enable_back : (e : LogicCell) (z : ℕ) (p : IsEnable other kit e z) (m : ℕ) → m < enables_of plan → IsEnableBack e p.b m p.off
  enable_back e z p m lt = by p.kind where
    gate : enable_width plan kit ≡ enable_width other kit
    gate = first.gate_there plan kit wire word write masks reach words some size short

    by : ((e ≡ Gn p.b p.m) × (p.off ≡ 0)) ⊎ ((e ≡ Gi p.b p.m) × (p.off ≡ enable_width other kit)) → IsEnableBack e p.b m p.off
    by (inl is) = record {
      d = Gn p.b m;
      at = subst (λ (o : ℕ). IsCellAt plan kit (Gn p.b m) (enables_start plan kit + ((p.b * enables_of plan + m) * pair_width plan kit + o))) (sym is.1) (put_gate plan kit p.b m p.less_b lt (gated_back p.gated));
      role = role_same (Gn p.b m) ∙ (any_gate other p.b m p.m ∙ ap (logic_role other) (sym is.0));
    }
    by (inr is) = record { d = Gi p.b m; at = put_inverter plan kit p.b m p.off (is.1 ∙ sym gate) p.less_b lt (gated_back p.gated); role = sym (ap (logic_role other) is.0) }

  -- so far behind all flip-flops
  pub enable_late_back : (e : LogicCell) (z : ℕ) (p : IsEnable other kit e z) (m : ℕ) → m < enables_of plan → p.b * enables_of plan + m ≡ p.b * enables_of other + p.m → IsLateBack e (total_width other kit (banks_cells other other.bank_bits) + ((p.b * enables_of other + p.m) * pair_width other kit + p.off))
  enable_late_back e z p m lt same =
      let b = enable_back e z p m lt in
      let k = first.banks_there plan kit wire word write masks reach words some size short in
      let u : (p.b * enables_of plan + m) * pair_width plan kit ≡ (p.b * enables_of other + p.m) * pair_width other kit = ap (λ (n : ℕ). n * pair_width plan kit) same ∙ ap (λ (n : ℕ). (p.b * enables_of other + p.m) * n) (first.pair_there plan kit wire word write masks reach words some size short) in
      record { d = b.d; y = enables_start plan kit + ((p.b * enables_of plan + m) * pair_width plan kit + p.off); at = b.at; role = b.role; late = omega (arith, k, u) }
