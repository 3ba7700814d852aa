-- The numbers of a plan are those of its definition.
use Rattle.std.proofs.Common.{refl, arith, inl, inr, ℕ, ◌*◌, ◌/◌, ◌%◌, sym, ap, ◌∙◌}
use Rattle.sram_netlist.specs.Organization.{total_bits}
use Rattle.sram_netlist.specs.Numbers.{PlanNumbers, ArePlanNumbers}
use Rattle.memory_laws.specs.Numbers.{AgreeWith, NumbersAgree, banked_numbers, masked_numbers}
use Rattle.memory_laws.proofs.Decode.{twice_power}

agree : (n : PlanNumbers) → ArePlanNumbers n → AgreeWith n
agree n ok =
    let rows = ok.rows ∙ sym (twice_power (total_bits n.groups)) in
    let wpr = ok.wpr ∙ sym (twice_power n.col_bits) in
    let banks = ok.banks ∙ sym (twice_power n.bank_bits) in
    let words = ok.words ∙ (λ j. banks j * (rows j * wpr j)) in
    record {
      rows = rows;
      wpr = wpr;
      banks = banks;
      columns = ok.columns ∙ ap (λ (k : ℕ). n.word_size * k) wpr;
      addr_bits = ok.addr_bits;
      words = words;
      bank = λ a. λ j. a / (words j / banks j);
      row = λ a. λ j. a % (words j / banks j) / wpr j;
      choice = λ a. λ j. a % (words j / banks j) % wpr j;
    }

banked : ArePlanNumbers banked_numbers
banked = record {
  plan = record { words = omega arith; rows = omega arith; columns = omega arith; banks = omega arith; choices = omega arith; sizes = (inr refl, (inr refl, tt)); groups = inl refl; masks = inl refl };
  rows = refl;
  wpr = refl;
  banks = refl;
  columns = refl;
  addr_bits = refl;
  words = refl;
}

masked : ArePlanNumbers masked_numbers
masked = record {
  plan = record { words = omega arith; rows = omega arith; columns = omega arith; banks = omega arith; choices = omega arith; sizes = (inl refl, (inl refl, tt)); groups = inl refl; masks = inr (omega arith, refl) };
  rows = refl;
  wpr = refl;
  banks = refl;
  columns = refl;
  addr_bits = refl;
  words = refl;
}

pub numbers_agree : NumbersAgree
numbers_agree = record { agree = agree; banked = banked; masked = masked }
