-- Lists of ports, step by step.
use Rattle.std.proofs.Common.{◌≡◌, ◌⊎◌, inl, inr, ℕ, zero, suc, ◌+◌, ◌≤◌, ◌/◌, ◌%◌, ◌^◌, List, [], ◌∷◌, ◌++◌, length, refl, ap, sym, subst, ◌∙◌, append_assoc, arith}
use Rattle.std.specs.Prelude.{codes}
use Rattle.sram_netlist.specs.Organization.{power_of_two, IsGroupSize}
use Rattle.sram_netlist.specs.Netlist.{low_bits, high_bits}
use Rattle.sram_netlist.specs.InstanceList.{tabulate}
use Rattle.sram_netlist.specs.Names.{with_number, with_numbers}
use Rattle.sram_deck.specs.Deck.{row_inputs, predecode_lines_from, row_lines_from, column_choices}
use Rattle.memory_laws.proofs.Decode.{addresses_split, twice_power}

-- what stands in front of a list is the same whether it was added to the one side or the other
moved : (now new more after all : List (List ℕ)) → new ≡ now ++ more → now ++ (more ++ after) ≡ all → new ++ after ≡ all
moved now new more after all added is = ap (λ (l : List (List ℕ)). l ++ after) added ∙ (append_assoc now more after ∙ is)

pub few_bits : (b : ℕ) → IsGroupSize b → b ≤ 3
few_bits b (inl e) = omega (arith, e)
few_bits b (inr e) = omega (arith, e)

-- the lines of one group more
pub group_more : (now new all : List (List ℕ)) (rest others : List ℕ) (bits group lines : ℕ) → rest ≡ bits ∷ others → lines ≡ power_of_two bits
    → new ≡ now ++ tabulate lines (with_numbers (codes "p") group) → now ++ predecode_lines_from rest group ≡ all → new ++ predecode_lines_from others (group + 1) ≡ all
group_more now new all rest others bits group lines front count added is =
    let next : suc group ≡ group + 1 = omega arith in
    subst (λ (g : ℕ). new ++ predecode_lines_from others g ≡ all) next
    (moved now new (tabulate (power_of_two bits) (with_numbers (codes "p") group)) (predecode_lines_from others (suc group)) all
    (added ∙ ap (λ (n : ℕ). now ++ tabulate n (with_numbers (codes "p") group)) count)
    (ap (λ (gs : List ℕ). now ++ predecode_lines_from gs group) (sym front) ∙ is))

-- the line of a row in one group more
pub line_more : (now new all : List (List ℕ)) (rest others : List ℕ) (bits group lines left : ℕ) → rest ≡ bits ∷ others → lines ≡ power_of_two bits
    → new ≡ now ++ with_numbers (codes "p") group (left % lines) ∷ [] → now ++ row_lines_from rest group left ≡ all → new ++ row_lines_from others (group + 1) (left / lines) ≡ all
line_more now new all rest others bits group lines left front count added is =
    let next : suc group ≡ group + 1 = omega arith in
    let high : high_bits bits left ≡ left / lines = (addresses_split bits left).0 ∙ ap (λ (n : ℕ). left / n) (sym count) in
    let low : left % lines ≡ low_bits bits left = ap (λ (n : ℕ). left % n) count ∙ sym (addresses_split bits left).1 in
    subst (λ (g : ℕ). new ++ row_lines_from others g (left / lines) ≡ all) next
    (subst (λ (h : ℕ). new ++ row_lines_from others (suc group) h ≡ all) high
    (moved now new (with_numbers (codes "p") group (low_bits bits left) ∷ []) (row_lines_from others (suc group) (high_bits bits left)) all
    (added ∙ ap (λ (n : ℕ). now ++ with_numbers (codes "p") group n ∷ []) low)
    (ap (λ (gs : List ℕ). now ++ row_lines_from gs group left) (sym front) ∙ is)))

-- the inputs of a gate over two groups, and over three
pub two_inputs : (sizes : List ℕ) → length sizes ≡ 2 → row_inputs 97 sizes ≡ codes "a" ∷ codes "b" ∷ []
two_inputs [] e = let zero_two : 0 ≡ 2 = e in absurd (omega (arith, zero_two))
two_inputs (a ∷ []) e = absurd (omega (arith, e))
two_inputs (a ∷ b ∷ []) e = refl
two_inputs (a ∷ b ∷ c ∷ sizes) e = absurd (omega (arith, e))

pub three_inputs : (sizes : List ℕ) → length sizes ≡ 3 → row_inputs 97 sizes ≡ codes "a" ∷ codes "b" ∷ codes "c" ∷ []
three_inputs [] e = let zero_three : 0 ≡ 3 = e in absurd (omega (arith, zero_three))
three_inputs (a ∷ []) e = absurd (omega (arith, e))
three_inputs (a ∷ b ∷ []) e = absurd (omega (arith, e))
three_inputs (a ∷ b ∷ c ∷ []) e = refl
three_inputs (a ∷ b ∷ c ∷ d ∷ sizes) e = absurd (omega (arith, e))

-- the column choices, where there are column bits and where there are none
pub no_choices : (m : ℕ) → m ≡ 0 → column_choices m ≡ []
no_choices zero e = refl
no_choices (suc m) e = absurd (omega (arith, e))

pub some_choices : (m words : ℕ) → (m ≡ 0 → ⊥) → words ≡ 2 ^ m → column_choices m ≡ tabulate words (with_number (codes "sel"))
some_choices zero words other is = absurd (other refl)
some_choices (suc m) words other is = ap (λ (n : ℕ). tabulate n (with_number (codes "sel"))) (twice_power (suc m) ∙ sym is)

pub after_two : (old now new : List (List ℕ)) (a b : List ℕ) → now ≡ old ++ a ∷ [] → new ≡ now ++ b ∷ [] → new ≡ old ++ a ∷ b ∷ []
after_two old now new a b first second = second ∙ (ap (λ (l : List (List ℕ)). l ++ b ∷ []) first ∙ append_assoc old (a ∷ []) (b ∷ []))

pub after_three : (old now then new : List (List ℕ)) (a b c : List ℕ) → now ≡ old ++ a ∷ [] → then ≡ now ++ b ∷ [] → new ≡ then ++ c ∷ [] → new ≡ old ++ a ∷ b ∷ c ∷ []
after_three old now then new a b c first second third = third ∙ (ap (λ (l : List (List ℕ)). l ++ c ∷ []) (after_two old now then a b first second) ∙ append_assoc old (a ∷ b ∷ []) (c ∷ []))

pub two_left : (n : ℕ) → (n ≡ 2) ⊎ (n ≡ 3) → (n ≡ 3 → ⊥) → n ≡ 2
two_left n (inl e) other = e
two_left n (inr e) other = absurd (other e)
