-- Cells of the logic row that no count of data bits or masks moves; and numbers of units.
use Rattle.std.proofs.Common.{◌≡◌, ◌⊎◌, inl, inr, ℕ, zero, suc, ◌+◌, ◌-◌, ◌*◌, ◌<◌, ◌≤◌, List, [], ◌∷◌, ◌++◌, refl, ap, arith}
use Rattle.std.specs.List.{flat_map, AllByRecursion}
use Rattle.std.proofs.lemmas.Bool.{cases_lt}
use Rattle.std.proofs.Math.Nat.{add-mul, mul-le-mul_right}
use Rattle.sram_netlist.specs.Organization.{Organization, power_of_two, addr_bits, bank_bit}
use Rattle.sram_netlist.specs.Instances.{LogicCell, Dd, Dm, Gn, Gi, Clki, Csd, Wed, Csi, Wei, Wln, Wli, Wrn, Wri, Rdn, Rdi, Dlay, Senn, Seni, Ad, Ai, Pn, Pi, Ln, Li, Kn, Ki}
use Rattle.sram_netlist.specs.InstanceList.{numbers_from, tabulate_lists, fixed_cells, address_cells, choice_gates, groups_gates, line_gates, gates, bank_cells, banks_cells}
use Rattle.moved_nets.specs.Moved.{Moves, moved_cell, MovesAsMask}
use Rattle.good_places.proofs.CellRowLaws.{begin_cells}

-- Cells that no count of data bits or masks moves

abbrev pub IsSteady : LogicCell → Type 0
IsSteady (Dd i) = ⊥
IsSteady (Dm m) = ⊥
IsSteady (Gn b m) = ⊥
IsSteady (Gi b m) = ⊥
IsSteady cell = Unit {0}

pub steady_is : (v : Moves) (cell : LogicCell) → IsSteady cell → cell ≡ moved_cell v cell
steady_is v (Dd i) s = absurd s
steady_is v (Dm m) s = absurd s
steady_is v (Gn b m) s = absurd s
steady_is v (Gi b m) s = absurd s
steady_is v Clki s = refl
steady_is v Csd s = refl
steady_is v Wed s = refl
steady_is v Csi s = refl
steady_is v Wei s = refl
steady_is v Wln s = refl
steady_is v Wli s = refl
steady_is v Wrn s = refl
steady_is v Wri s = refl
steady_is v Rdn s = refl
steady_is v Rdi s = refl
steady_is v Dlay s = refl
steady_is v Senn s = refl
steady_is v Seni s = refl
steady_is v (Ad i) s = refl
steady_is v (Ai i) s = refl
steady_is v (Pn o b k) s = refl
steady_is v (Pi o b k) s = refl
steady_is v (Ln b) s = refl
steady_is v (Li b) s = refl
steady_is v (Kn b) s = refl
steady_is v (Ki b) s = refl

pub steady_moves : (v : Moves) (cell : LogicCell) → IsSteady cell → MovesAsMask v cell
steady_moves v (Gn b m) s = absurd s
steady_moves v (Gi b m) s = absurd s
steady_moves v (Dd i) s = absurd s
steady_moves v (Dm m) s = absurd s
steady_moves v cell s = elsewhere cell s where
  elsewhere : (cell : LogicCell) → IsSteady cell → MovesAsMask v cell
  elsewhere (Gn b m) s = absurd s
  elsewhere cell s = tt

both : (xs ys : List LogicCell) → AllByRecursion IsSteady xs → AllByRecursion IsSteady ys → AllByRecursion IsSteady (xs ++ ys)
both [] ys a b = b
both (x ∷ xs) ys a b = (a.0, both xs ys a.1 b)

each : (F : ℕ → List LogicCell) → ((j : ℕ) → AllByRecursion IsSteady (F j)) → (ns : List ℕ) → AllByRecursion IsSteady (flat_map F ns)
each F all [] = tt
each F all (n ∷ ns) = both (F n) (flat_map F ns) (all n) (each F all ns)

steady_gates : (o b : ℕ) → AllByRecursion IsSteady (gates o b)
steady_gates o b = each (line_gates o b) (λ k. (tt, (tt, tt))) (numbers_from 0 (power_of_two b))

steady_groups : (bs : List ℕ) (o : ℕ) → AllByRecursion IsSteady (groups_gates bs o)
steady_groups [] o = tt
steady_groups (b ∷ bs) o = both (gates o b) (groups_gates bs (o + b)) (steady_gates o b) (steady_groups bs (o + b))

steady_choices : (n : ℕ) → AllByRecursion IsSteady (choice_gates n)
steady_choices zero = tt
steady_choices (suc n) = steady_gates 0 (suc n)

steady_fixed : (n : ℕ) → AllByRecursion IsSteady (fixed_cells n)
steady_fixed zero = (tt, (tt, (tt, (tt, (tt, (tt, (tt, (tt, tt))))))))
steady_fixed (suc n) = (tt, (tt, (tt, (tt, (tt, (tt, (tt, (tt, (tt, (tt, (tt, (tt, (tt, (tt, tt))))))))))))))

pub steady_begin : (plan : Organization) → AllByRecursion IsSteady (begin_cells plan)
steady_begin plan =
    both (fixed_cells plan.write_size) (tabulate_lists (addr_bits plan) address_cells ++ (choice_gates plan.col_bits ++ groups_gates plan.groups plan.col_bits)) (steady_fixed plan.write_size)
    (both (tabulate_lists (addr_bits plan) address_cells) (choice_gates plan.col_bits ++ groups_gates plan.groups plan.col_bits) (each address_cells (λ i. (tt, (tt, tt))) (numbers_from 0 (addr_bits plan)))
    (both (choice_gates plan.col_bits) (groups_gates plan.groups plan.col_bits) (steady_choices plan.col_bits) (steady_groups plan.groups plan.col_bits)))

pub steady_banks : (plan : Organization) (n : ℕ) → AllByRecursion IsSteady (banks_cells plan n)
steady_banks plan zero = tt
steady_banks plan (suc n) = both (gates (bank_bit plan) (suc n)) (tabulate_lists (power_of_two (suc n)) bank_cells) (steady_gates (bank_bit plan) (suc n)) (each bank_cells (λ b. (tt, (tt, (tt, (tt, tt))))) (numbers_from 0 (power_of_two (suc n))))

pub steady_in : (before after : List LogicCell) (cell : LogicCell) → AllByRecursion IsSteady (before ++ (cell ∷ after)) → IsSteady cell
steady_in [] after cell all = all.0
steady_in (x ∷ before) after cell all = steady_in before after cell all.1

-- Numbers

pub one_unit : (k d : ℕ) → 1 ≤ k → d ≤ k * d
one_unit k d some = let le = mul-le-mul_right d some in let one : 1 * d ≡ d = omega arith in omega (arith, le, one)

pub fewer : (a b d : ℕ) → a * d < b * d + (d + d) → a < b + 2
fewer a b d lt = elim (cases_lt a (b + 2)) [
  | inl less ↦ less
  | inr more ↦ let le = mul-le-mul_right d more in let two = add-mul b 2 d in absurd (omega (arith, lt, le, two))
]

pub no_unit : (a d : ℕ) → a * d < d → a ≡ 0
no_unit zero d lt = refl
no_unit (suc a) d lt = let le = one_unit (suc a) d (omega arith) in absurd (omega (arith, le, lt))

-- the first stays the first, and each other is the last
abbrev pub last_of : ℕ → ℕ → ℕ
last_of m zero = 0
last_of m (suc k) = m - 1

pub last_is : (m k : ℕ) → 1 ≤ k → last_of m k ≡ m - 1
last_is m zero some = absurd (omega (arith, some))
last_is m (suc k) some = refl

pub first_is : (m k : ℕ) → k ≡ 0 → last_of m k ≡ 0
first_is m zero is = refl
first_is m (suc k) is = absurd (omega (arith, is))

-- numbers of pairs next to each other, in so many for each bank
pub record AreNext (e b m c n : ℕ) : Type 0 where
  pub which : ((b ≡ c) × (m ≡ n)) ⊎ (((b ≡ c) × (m + 1 ≡ n)) ⊎ ((b + 1 ≡ c) × (m + 1 ≡ e) × (n ≡ 0)))

pub next_pair : (e b m c n : ℕ) → m < e → n < e → b * e + m ≤ c * e + n → c * e + n < (b * e + m) + 2 → AreNext e b m c n
next_pair e b m c n lm ln le lt = elim (cases_lt b c) [
  | inl before ↦ elim (cases_lt (b + 1) c) [
    | inl far ↦ let g : (b + 2) * e ≤ c * e = mul-le-mul_right e (let h : b + 2 ≤ c = omega (arith, far) in h) in let two = add-mul b 2 e in absurd (omega (arith, g, two, lm, ln, lt))
    | inr near ↦ let g : (b + 1) * e ≡ c * e = ap (λ (x : ℕ). x * e) (let h : b + 1 ≡ c = omega (arith, before, near) in h) in let one = add-mul b 1 e in record { which = inr (inr (omega (arith, before, near), omega (arith, g, one, lm, ln, lt), omega (arith, g, one, lm, ln, lt))) }
  ]
  | inr from ↦ elim (cases_lt c b) [
    | inl after ↦ let g : (c + 1) * e ≤ b * e = mul-le-mul_right e (let h : c + 1 ≤ b = omega (arith, after) in h) in let one = add-mul c 1 e in absurd (omega (arith, g, one, lm, ln, le))
    | inr to ↦
        let s : b ≡ c = omega (arith, from, to) in
        let g : b * e ≡ c * e = ap (λ (x : ℕ). x * e) s in
        elim (cases_lt m n) [
          | inl less ↦ record { which = inr (inl (s, omega (arith, g, less, lt))) }
          | inr more ↦ record { which = inl (s, omega (arith, g, more, le)) }
        ]
  ]
]
