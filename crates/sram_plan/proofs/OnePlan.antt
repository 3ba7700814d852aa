-- A configuration has one plan.
use Rattle.std.proofs.Common.{◌≡◌, ◌⊎◌, inl, inr, ℕ, ◌<◌, ◌≤◌, Option, Some, None, MatchOption, sym, ap, ◌∙◌, arith}
use Rattle.sram_plan.specs.declared.config.Config.{Config}
use Rattle.sram_plan.specs.Plan.{FitsBank, IsNearest, distance, candidates, rows_with, columns_with, row_groups, PlansAreOne}
use Rattle.sram_plan.proofs.PlanLaws.{exponents_are_one}

same_nearest : (da db a b : ℕ) → (da < db) ⊎ ((da ≡ db) × (a ≤ b)) → (db < da) ⊎ ((db ≡ da) × (b ≤ a)) → a ≡ b
same_nearest da db a b (inl h) (inl k) = absurd (omega arith)
same_nearest da db a b (inl h) (inr k) = absurd (let e = k.0 in omega arith)
same_nearest da db a b (inr h) (inl k) = absurd (let e = h.0 in omega arith)
same_nearest da db a b (inr h) (inr k) = let x = h.1 in let y = k.1 in omega arith

one_count : (config : Config) (given : Option ℕ) (a b : ℕ) → MatchOption given (IsNearest config candidates a) (λ g. (a ≡ g) × FitsBank config a)
    → MatchOption given (IsNearest config candidates b) (λ g. (b ≡ g) × FitsBank config b) → a ≡ b
one_count config None a b h k = same_nearest (distance config a) (distance config b) a b (h.nearest b k.among k.fits) (k.nearest a h.among h.fits)
one_count config (Some g) a b h k = h.0 ∙ sym k.0

pub plans_are_one : PlansAreOne
plans_are_one config p q a b =
    let w = one_count config config.words_per_row p.wpr q.wpr a.chosen b.chosen in
    let x = a.with in
    let y = b.with in
    λ i. record {
      word_size = (x.word_size ∙ sym y.word_size) i;
      write_size = (x.write_size ∙ sym y.write_size) i;
      masks = (x.masks ∙ sym y.masks) i;
      banks = (x.banks ∙ sym y.banks) i;
      num_words = (x.num_words ∙ sym y.num_words) i;
      wpr = w i;
      rows = (x.rows ∙ ap (rows_with config) w ∙ sym y.rows) i;
      columns = (x.columns ∙ ap (columns_with config) w ∙ sym y.columns) i;
      addr_bits = exponents_are_one p.addr_bits q.addr_bits (x.addr_bits ∙ sym y.addr_bits) i;
      col_bits = exponents_are_one p.col_bits q.col_bits (x.col_bits ∙ w ∙ sym y.col_bits) i;
      bank_bits = exponents_are_one p.bank_bits q.bank_bits (x.bank_bits ∙ sym y.bank_bits) i;
      groups = (x.groups ∙ ap (λ v. row_groups (rows_with config v)) w ∙ sym y.groups) i;
    }
