-- A configuration has a plan, or none.
use Rattle.std.proofs.Common.{◌≡◌, ◌⊎◌, inl, inr, ℕ, ◌≤◌, ◌*◌, ◌%◌, ◌^◌, List, [], ◌∷◌, ◌++◌, Option, Some, None, refl, subst, arith}
use Rattle.std.specs.Prelude.{MatchOption, IfSome}
use Rattle.std.proofs.lemmas.Bool.{cases_eq, cases_lt}
use Rattle.sram_netlist.specs.Membership.{IsOneOf}
use Rattle.sram_plan.specs.declared.config.Config.{Config}
use Rattle.sram_plan.specs.declared.numbers.Plan.{Plan}
use Rattle.sram_plan.specs.Config.{IsConfig, bank_counts, row_counts, word_counts}
use Rattle.sram_plan.specs.Plan.{AreSmaller, FitsBank, IsNearest, IsWordsPerRow, NearestAmong, candidates, columns_with, distance, masks_of}
use Rattle.sram_plan.specs.Plan.{row_groups, rows_with}
use Rattle.sram_plan.proofs.NearestLaws.{below_first, below_more, kept_nearest, passed_over, taken, taken_first}
use Rattle.plan_answers.specs.PlanAnswers.{PlanOrNone, PlansAnswer}

at_most : (a b : ℕ) → (a ≤ b) ⊎ (a ≤ b → ⊥)
at_most a b = elim (cases_lt b a) [ inl lt ↦ inr (λ le. omega (arith, lt, le)) | inr le ↦ inl le ]

-- a count fits, or it doesn't
fits_or_not : (config : Config) (wpr : ℕ) → FitsBank config wpr ⊎ (FitsBank config wpr → ⊥)
fits_or_not config wpr = elim (cases_eq (config.num_words % (config.num_banks * wpr)) 0) [
  | inr rest ↦ inr (λ f. rest f.whole)
  | inl whole ↦ elim (at_most 16 (rows_with config wpr)) [
    | inr few ↦ inr (λ f. few f.some_rows)
    | inl some ↦ elim (at_most (rows_with config wpr) 256) [
      | inr many ↦ inr (λ f. many f.few_rows)
      | inl rows ↦ elim (at_most (columns_with config wpr) 256) [
        | inr wide ↦ inr (λ f. wide f.few_columns)
        | inl columns ↦ inl (record { whole = whole; some_rows = some; few_rows = rows; few_columns = columns })
      ]
    ]
  ]
]

abbrev FoundAmong : Config → List ℕ → Type 0
FoundAmong config ws = (found : Option ℕ) × NearestAmong config ws found

-- the nearest of some counts, and of a larger one too
one_count_more : (config : Config) (ws : List ℕ) (wpr : ℕ) → AreSmaller ws wpr → (found : Option ℕ) → NearestAmong config ws found
    → FoundAmong config (ws ++ wpr ∷ [])
one_count_more config ws wpr below found near = elim (fits_or_not config wpr) [
  | inr misfit ↦ (found, passed_over config ws wpr found misfit near)
  | inl fits ↦ by_old found near fits
]
  where
    by_old : (found : Option ℕ) → NearestAmong config ws found → FitsBank config wpr → FoundAmong config (ws ++ wpr ∷ [])
    by_old None near fits = (Some wpr, taken_first config ws wpr None refl fits near)
    by_old (Some old) near fits = elim (cases_lt (distance config wpr) (distance config old)) [
      | inl nearer ↦ (Some wpr, taken config ws wpr old (Some old) refl fits nearer near)
      | inr not ↦ (Some old, kept_nearest config ws wpr old (Some old) refl below not near)
    ]

nearest_found : (config : Config) → FoundAmong config candidates
nearest_found config =
    let none : FoundAmong config [] = (None, λ wpr among fits. among) in
    let first = one_count_more config [] 1 (below_first 1) none.0 none.1 in
    let second = one_count_more config (1 ∷ []) 2 (below_more [] 1 2 (omega arith) (below_first 2)) first.0 first.1 in
    let third =
    one_count_more config (1 ∷ 2 ∷ []) 4
    (below_more (2 ∷ []) 1 4 (omega arith) (below_more [] 2 4 (omega arith) (below_first 4))) second.0 second.1 in
    one_count_more config (1 ∷ 2 ∷ 4 ∷ []) 8
    (below_more (2 ∷ 4 ∷ []) 1 8 (omega arith)
    (below_more (4 ∷ []) 2 8 (omega arith) (below_more [] 4 8 (omega arith) (below_first 8)))) third.0 third.1

-- the exponent of each count that a key may have
abbrev IsPower : ℕ → Type 0
IsPower n = (e : ℕ) × (2 ^ e ≡ n)

words_power : (n : ℕ) → IsOneOf n word_counts → IsPower n
words_power n (inl e) = (4, e)
words_power n (inr (inl e)) = (5, e)
words_power n (inr (inr (inl e))) = (6, e)
words_power n (inr (inr (inr (inl e)))) = (7, e)
words_power n (inr (inr (inr (inr (inl e))))) = (8, e)
words_power n (inr (inr (inr (inr (inr (inl e)))))) = (9, e)
words_power n (inr (inr (inr (inr (inr (inr (inl e))))))) = (10, e)
words_power n (inr (inr (inr (inr (inr (inr (inr (inl e)))))))) = (11, e)
words_power n (inr (inr (inr (inr (inr (inr (inr (inr (inl e))))))))) = (12, e)
words_power n (inr (inr (inr (inr (inr (inr (inr (inr (inr (inl e)))))))))) = (13, e)
words_power n (inr (inr (inr (inr (inr (inr (inr (inr (inr (inr none)))))))))) = absurd none

rows_power : (n : ℕ) → IsOneOf n row_counts → IsPower n
rows_power n (inl e) = (0, e)
rows_power n (inr (inl e)) = (1, e)
rows_power n (inr (inr (inl e))) = (2, e)
rows_power n (inr (inr (inr (inl e)))) = (3, e)
rows_power n (inr (inr (inr (inr none)))) = absurd none

banks_power : (n : ℕ) → IsOneOf n bank_counts → IsPower n
banks_power n (inl e) = (0, e)
banks_power n (inr (inl e)) = (1, e)
banks_power n (inr (inr (inl e))) = (2, e)
banks_power n (inr (inr (inr none))) = absurd none

-- a chosen count makes a plan
planned : (config : Config) → IsConfig config → (w : ℕ) → IsOneOf w row_counts → IsWordsPerRow config w → PlanOrNone config
planned config is w among chosen =
    let words = words_power config.num_words is.words in
    let rows = rows_power w among in
    let banks = banks_power config.num_banks is.banks in
    let plan : Plan = record {
      word_size = config.word_size;
      write_size = config.write_size;
      masks = masks_of config;
      banks = config.num_banks;
      num_words = config.num_words;
      wpr = w;
      rows = rows_with config w;
      columns = columns_with config w;
      addr_bits = words.0;
      col_bits = rows.0;
      bank_bits = banks.0;
      groups = row_groups (rows_with config w);
    } in
    inl (
      plan,
      record {
        chosen = chosen;
        with = record {
          wpr = refl;
          word_size = refl;
          write_size = refl;
          masks = refl;
          banks = refl;
          num_words = refl;
          rows = refl;
          columns = refl;
          addr_bits = words.1;
          col_bits = rows.1;
          bank_bits = banks.1;
          groups = refl;
        };
      },
    )

-- the given count, or the nearest
abbrev ChosenIn : Config → Option ℕ → ℕ → Type 0
ChosenIn config given w = MatchOption given (IsNearest config candidates w) (λ g. (w ≡ g) × FitsBank config w)

chosen_or_none : (config : Config) (given : Option ℕ) → IfSome given (λ w. IsOneOf w row_counts)
    → ((w : ℕ) × IsOneOf w row_counts × ChosenIn config given w) ⊎ ((w : ℕ) → ChosenIn config given w → ⊥)
chosen_or_none config (Some w) among = elim (fits_or_not config w) [
  | inl fits ↦ inl (w, among, (refl, fits))
  | inr misfit ↦ inr (λ v chosen. misfit (subst (FitsBank config) chosen.0 chosen.1))
]
chosen_or_none config None among = by_found (nearest_found config)
  where
    by_found : FoundAmong config candidates → ((w : ℕ) × IsOneOf w row_counts × ChosenIn config None w) ⊎ ((w : ℕ) → ChosenIn config None w → ⊥)
    by_found (Some w, near) = inl (w, near.among, near)
    by_found (None, none) = inr (λ v chosen. none v chosen.among chosen.fits)

pub plans_answer : PlansAnswer
plans_answer config is = elim (chosen_or_none config config.words_per_row is.words_per_row) [
  | inl chosen ↦ planned config is chosen.0 chosen.1 chosen.2
  | inr none ↦ inr none
]
