-- What the lines over some address bits choose.
use Rattle.std.proofs.Common.{◌≡◌, ◌⊎◌, inl, inr, ℕ, zero, suc, ◌+◌, ◌*◌, ◌<◌, ◌≤◌, List, [], ◌∷◌, ◌++◌, length, map, Bool, cond, refl, ap, sym, ◌∙◌, append_assoc, arith}
use Rattle.std.specs.List.{AllByRecursion}
use Rattle.sram_netlist.specs.Organization.{Organization, IsGroupSize, total_bits, bank_bit}
use Rattle.sram_netlist.specs.Instances.{LogicCell}
use Rattle.sram_netlist.specs.Names.{Column, Group, Bank, line_kind_in, line_kind_at, line_kind}
use Rattle.sram_netlist.specs.InstanceList.{gates, choice_gates, groups_gates}
use Rattle.sram_netlist.proofs.ChoiceLaws.{nat_same, nat_other}
use Rattle.port_lists.proofs.TabulateLaws.{map_append}

pub kind_from : (m : ℕ) (groups : List ℕ) (o : ℕ) → m ≤ o → line_kind_at m groups o ≡ line_kind_in groups m 0 o
kind_from zero groups o le = refl
kind_from (suc m) groups zero le = absurd (omega (arith, le))
kind_from (suc m) groups (suc o) le = refl

pub column_kind : (m : ℕ) (groups : List ℕ) → (m ≡ 0 → ⊥) → line_kind_at m groups 0 ≡ Column
column_kind zero groups some = absurd (some refl)
column_kind (suc m) groups some = refl

pub some_choice_gates : (m : ℕ) → (m ≡ 0 → ⊥) → choice_gates m ≡ gates 0 m
some_choice_gates zero some = absurd (some refl)
some_choice_gates (suc m) some = refl

pub no_choice_gates : (m : ℕ) → m ≡ 0 → choice_gates m ≡ []
no_choice_gates zero none = refl
no_choice_gates (suc m) none = absurd (omega (arith, none))

some_bits : (b : ℕ) → IsGroupSize b → 0 < b
some_bits b (inl e) = omega (arith, e)
some_bits b (inr e) = omega (arith, e)

pub group_kind : (b : ℕ) (bs : List ℕ) (from g : ℕ) → line_kind_in (b ∷ bs) from g from ≡ Group g
group_kind b bs from g = ap (λ (t : Bool). cond t (Group g) (line_kind_in bs (from + b) (suc g) from)) (nat_same from)

pub kind_behind : (b : ℕ) (bs : List ℕ) (from g o : ℕ) → IsGroupSize b → from + b ≤ o → line_kind_in (b ∷ bs) from g o ≡ line_kind_in bs (from + b) (g + 1) o
kind_behind b bs from g o size le =
    let some = some_bits b size in
    let next : suc g ≡ g + 1 = omega arith in
    ap (λ (t : Bool). cond t (Group g) (line_kind_in bs (from + b) (suc g) o)) (nat_other o from (λ same. omega (arith, some, le, same)))
    ∙ ap (λ (h : ℕ). line_kind_in bs (from + b) h o) next

pub few_bits_more : (bs : List ℕ) → AllByRecursion IsGroupSize bs → total_bits bs ≤ 3 * length bs
few_bits_more [] all = omega arith
few_bits_more (b ∷ bs) all = let rest = few_bits_more bs all.1 in by all.0 rest where
  by : IsGroupSize b → total_bits bs ≤ 3 * length bs → b + total_bits bs ≤ 3 * suc (length bs)
  by (inl e) rest = omega (arith, e, rest)
  by (inr e) rest = omega (arith, e, rest)

kind_after : (bs : List ℕ) (from g o : ℕ) → AllByRecursion IsGroupSize bs → from + total_bits bs ≤ o → line_kind_in bs from g o ≡ Bank
kind_after [] from g o all le = refl
kind_after (b ∷ bs) from g o all le =
    kind_behind b bs from g o all.0 (omega (arith, le)) ∙ kind_after bs (from + b) (g + 1) o all.1 (omega (arith, le))

pub bank_kind : (plan : Organization) → AllByRecursion IsGroupSize plan.groups → line_kind plan (bank_bit plan) ≡ Bank
bank_kind plan all = kind_from plan.col_bits plan.groups (bank_bit plan) (omega arith) ∙ kind_after plan.groups plan.col_bits 0 (bank_bit plan) all (omega arith)

-- the lines of one group more
pub groups_more : {A : Type 0} (g : LogicCell → A) (now new all : List A) (rest others : List ℕ) (bits low : ℕ) → rest ≡ bits ∷ others → new ≡ now ++ map g (gates low bits)
    → now ++ map g (groups_gates rest low) ≡ all → new ++ map g (groups_gates others (low + bits)) ≡ all
groups_more {A = A} g now new all rest others bits low front added is =
    ap (λ (l : List A). l ++ map g (groups_gates others (low + bits))) added
    ∙ (append_assoc now (map g (gates low bits)) (map g (groups_gates others (low + bits)))
    ∙ (ap (λ (l : List A). now ++ l) (sym (map_append g (gates low bits) (groups_gates others (low + bits))))
    ∙ (ap (λ (bs : List ℕ). now ++ map g (groups_gates bs low)) (sym front) ∙ is)))

pub few_groups : (groups stated : List ℕ) → groups ≡ stated → (length stated ≡ 2) ⊎ (length stated ≡ 3) → 0 + length groups ≤ 3
few_groups groups stated same sized = let e = ap (λ (gs : List ℕ). length gs) same in by sized e where
  by : (length stated ≡ 2) ⊎ (length stated ≡ 3) → length groups ≡ length stated → 0 + length groups ≤ 3
  by (inl two) e = omega (arith, two, e)
  by (inr three) e = omega (arith, three, e)
