-- The bits of a fixed word.
use Rattle.std.proofs.Common.{◌≡◌, ℕ, zero, suc, ◌+◌, ◌*◌, ◌/◌, ◌%◌, ◌^◌, ◌<◌, ◌≤◌, nat_eq, false, refl, ap, sym, ◌∙◌, arith, pow_mono, mul_comm}
use Rattle.std.proofs.Math.Nat.{div-eq_of_lt, mod-lt, mul-le-mul_left}
use Rattle.sram_netlist.specs.Netlist.{lowest_bit, high_bits}
use Rattle.sram_netlist.specs.Organization.{power_of_two}
use Rattle.port_lists.proofs.TabulateLaws.{some_lines}
use Rattle.memory_laws.proofs.Decode.{addresses_split, twice_power}

lowest_is : (n : ℕ) → nat_eq (n % 2) 1 ≡ lowest_bit n
lowest_is zero = refl
lowest_is (suc zero) = refl
lowest_is (suc (suc n)) = let e : suc (suc n) % 2 ≡ n % 2 = omega arith in ap (λ (m : ℕ). nat_eq m 1) e ∙ lowest_is n

high_is : (word bit : ℕ) → word / 2 ^ bit ≡ high_bits bit word
high_is word bit = sym ((addresses_split bit word).0 ∙ ap (λ (d : ℕ). word / d) (twice_power bit))

-- the bit that is found by a shift
pub bit_is : (word bit : ℕ) → nat_eq (word / 2 ^ bit % 2) 1 ≡ lowest_bit (high_bits bit word)
bit_is word bit = lowest_is (word / 2 ^ bit) ∙ ap lowest_bit (high_is word bit)

-- a word of 64 bits has no bit behind them
pub none_behind : (word bit : ℕ) → word < 2 ^ 64 → 64 ≤ bit → false ≡ lowest_bit (high_bits bit word)
none_behind word bit few behind =
    let more = pow_mono {i = 64} {j = bit} behind in
    ap lowest_bit (sym (div-eq_of_lt {n = word} {m = 2 ^ bit} (omega (arith, few, more))) ∙ high_is word bit)

-- a row and a choice are the place of a word
pub place_below : (rows wpr bits row column count : ℕ) → wpr ≡ power_of_two bits → row < rows → count ≡ rows * power_of_two bits → row * wpr + column % wpr < count
place_below rows wpr bits row column count is less all =
    let some = some_lines bits in
    let rest = mod-lt column {m = wpr} (omega (arith, is, some)) in
    let more = mul-le-mul_left {m = 1 + row} {n = rows} wpr (omega (arith, less)) in
    let whole : count ≡ wpr * rows = all ∙ (ap (λ (w : ℕ). rows * w) (sym is) ∙ mul_comm rows wpr) in
    let grown : (1 + row) * wpr ≡ wpr + row * wpr = omega arith in
    let one : wpr * (1 + row) ≡ wpr + row * wpr = mul_comm wpr (1 + row) ∙ grown in
    omega (arith, rest, more, whole, one)
