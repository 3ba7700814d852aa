-- What the lines of a choice are called.
use Rattle.std.proofs.Common.{◌≡◌, ◌⊎◌, inl, inr, ℕ, zero, suc, ◌+◌, ◌<◌, ◌≤◌, List, [], ◌∷◌, length, Bool, true, false, cond, nat_eq, refl, sym, ap, ◌∙◌, arith}
use Rattle.std.specs.List.{AllByRecursion}
use Rattle.std.proofs.lemmas.Bool.Decides.{nat_tests}
use Rattle.sram_netlist.specs.Organization.{Organization, total_bits, bank_bit, IsBuildable, IsGroupSize}
use Rattle.sram_netlist.specs.Membership.{IsGroup, IsChoice}
use Rattle.sram_netlist.specs.Names.{Column, Group, Bank, line_kind_in, line_kind_at, line_kind}
use Rattle.sram_netlist.proofs.NamesTell.{group_at}

pub nat_same : (n : ℕ) → nat_eq n n ≡ true
nat_same n = grind (arith, nat_tests)

pub nat_other : (m n : ℕ) → (m ≡ n → ⊥) → nat_eq m n ≡ false
nat_other m n h = grind (arith, nat_tests)

pub record IsGroupAt (bs : List ℕ) (from g o b : ℕ) : Type 0 where
  pub index : ℕ
  pub line_kind : line_kind_in bs from g o ≡ Group (g + index)
  pub at : group_at bs from index ≡ (o, b)
  pub few : index < length bs

pub above_from : (bs : List ℕ) (from o b : ℕ) → IsGroup bs from o b → from ≤ o
above_from [] from o b h = absurd h
above_from (c ∷ cs) from o b (inl e) = let same = e.0 in omega (arith, same)
above_from (c ∷ cs) from o b (inr h) = let k = above_from cs (from + c) o b h in omega (arith, k)

sized : (c : ℕ) → IsGroupSize c → 0 < c
sized c (inl e) = omega (arith, e)
sized c (inr e) = omega (arith, e)

pub group_is : (bs : List ℕ) (from g o b : ℕ) → AllByRecursion IsGroupSize bs → IsGroup bs from o b → IsGroupAt bs from g o b
group_is [] from g o b all h = absurd h
group_is (c ∷ cs) from g o b all (inl e) = record {
  index = 0;
  line_kind = ap (λ (t : Bool). cond t (Group g) (line_kind_in cs (from + c) (suc g) o)) (ap (λ (n : ℕ). nat_eq n from) e.0 ∙ nat_same from) ∙ ap (λ (n : ℕ). Group n) (omega arith);
  at = λ i. (sym e.0 i, sym e.1 i);
  few = omega arith;
}
group_is (c ∷ cs) from g o b all (inr h) =
    let r = group_is cs (from + c) (suc g) o b all.1 h in
    let above = above_from cs (from + c) o b h in
    let some = sized c all.0 in
    let lt = r.few in
    record {
      index = suc r.index;
      line_kind = ap (λ (t : Bool). cond t (Group g) (line_kind_in cs (from + c) (suc g) o)) (nat_other o from (λ same. omega (arith, above, some, same))) ∙ r.line_kind ∙ ap (λ (n : ℕ). Group n) (omega arith);
      at = r.at;
      few = omega (arith, lt);
    }

pub past_groups : (bs : List ℕ) (from g o : ℕ) → AllByRecursion IsGroupSize bs → from + total_bits bs ≤ o → line_kind_in bs from g o ≡ Bank
past_groups [] from g o all h = refl
past_groups (c ∷ cs) from g o all h =
    let some = sized c all.0 in
    ap (λ (t : Bool). cond t (Group g) (line_kind_in cs (from + c) (suc g) o)) (nat_other o from (λ same. omega (arith, some, same))) ∙ past_groups cs (from + c) (suc g) o all.1 (omega arith)

-- which choice it is
pub record IsColumnChoice (plan : Organization) (o b : ℕ) : Type 0 where
  pub line_kind : line_kind plan o ≡ Column
  pub lowest : o ≡ 0
  pub bits : b ≡ plan.col_bits

pub record IsGroupChoice (plan : Organization) (o b : ℕ) : Type 0 where
  pub index : ℕ
  pub line_kind : line_kind plan o ≡ Group index
  pub at : group_at plan.groups plan.col_bits index ≡ (o, b)
  pub few : index < 3

pub record IsBankChoice (plan : Organization) (o b : ℕ) : Type 0 where
  pub line_kind : line_kind plan o ≡ Bank
  pub lowest : o ≡ bank_bit plan
  pub bits : b ≡ plan.bank_bits

-- behind the column choices there are groups
no_column : (m o : ℕ) (groups : List ℕ) → m ≤ o → 0 < o → line_kind_at m groups o ≡ line_kind_in groups m 0 o
no_column zero zero groups le some = absurd (omega arith)
no_column zero (suc o) groups le some = refl
no_column (suc m) zero groups le some = absurd (omega arith)
no_column (suc m) (suc o) groups le some = refl

at_zero : (o : ℕ) (groups : List ℕ) → line_kind_at zero groups o ≡ line_kind_in groups zero 0 o
at_zero zero groups = refl
at_zero (suc o) groups = refl

pub behind : (m o : ℕ) (groups : List ℕ) → m ≤ o → line_kind_at m groups o ≡ line_kind_in groups m 0 o
behind zero o groups le = at_zero o groups
behind (suc m) o groups le = no_column (suc m) o groups le (omega arith)

pub column : (m o : ℕ) (groups : List ℕ) → o ≡ 0 → 0 < m → line_kind_at m groups o ≡ Column
column zero o groups e some = absurd (omega arith)
column (suc m) zero groups e some = refl
column (suc m) (suc o) groups e some = absurd (omega arith)

three : (bs : List ℕ) → (length bs ≡ 2) ⊎ (length bs ≡ 3) → length bs ≤ 3
three bs (inl e) = omega (arith, e)
three bs (inr e) = omega (arith, e)

pub which : (plan : Organization) (o b : ℕ) → IsBuildable plan → IsChoice plan o b → IsColumnChoice plan o b ⊎ (IsGroupChoice plan o b ⊎ IsBankChoice plan o b)
which plan o b p (inl h) =
    let same = h.0.1 in
    inl (record { line_kind = column plan.col_bits o plan.groups h.0.0 (let some = h.1 in omega (arith, same, some)); lowest = h.0.0; bits = h.0.1 })
which plan o b p (inr (inl h)) =
    let r = group_is plan.groups plan.col_bits 0 o b p.sizes h in
    let few = three plan.groups p.groups in
    let lt = r.few in
    inr (inl (record {
      index = r.index;
      line_kind = behind plan.col_bits o plan.groups (above_from plan.groups plan.col_bits o b h) ∙ r.line_kind ∙ ap (λ (n : ℕ). Group n) (omega arith);
      at = r.at;
      few = omega (arith, few, lt);
    }))
which plan o b p (inr (inr h)) =
    let same = h.0.0 in
    inr (inr (record {
      line_kind = behind plan.col_bits o plan.groups (omega (arith, same)) ∙ past_groups plan.groups plan.col_bits 0 o p.sizes (omega (arith, same));
      lowest = h.0.0;
      bits = h.0.1;
    }))
