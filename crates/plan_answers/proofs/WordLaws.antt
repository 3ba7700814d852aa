-- Bytes are the words of a plan, or have a fault.
use Rattle.std.proofs.Common.{◌≡◌, ◌⊎◌, inl, inr, ℕ, zero, suc, ◌<◌, ◌^◌, List, length, map, get_or, refl, sym, subst, arith}
use Rattle.std.specs.List.{range_with_len}
use Rattle.std.proofs.lemmas.Bool.{cases_eq, cases_lt}
use Rattle.std.proofs.lemmas.List.FromFn.{get_or-map-range_with_len, length-map-range_with_len}
use Rattle.sram_plan.specs.declared.numbers.Plan.{Plan}
use Rattle.rom_data.specs.declared.fault.RomFault.TheVariants.{DataLength, DataBits}
use Rattle.rom_data.specs.Words.{FitsWord, data_length, data_word}
use Rattle.plan_answers.specs.WordAnswers.{WordsAnswer, WordsOrFault}

module _ (plan : Plan) (bytes : List ℕ) where
  abbrev Fits : ℕ → Type 0
  Fits address = FitsWord plan.word_size (data_word plan bytes address)

  -- the first of so many words that is too wide
  record IsFirstOf (count : ℕ) : Type 0 where
    address : ℕ
    there : address < count
    wide : ¬ Fits address
    earlier : (before : ℕ) → before < address → Fits before

  one_more : (n : ℕ) → ((k : ℕ) → k < n → Fits k) → Fits n → (k : ℕ) → k < suc n → Fits k
  one_more n all fits k lt = elim (cases_lt k n) [
    | inl below ↦ all k below
    | inr ge ↦ let same : n ≡ k = omega (arith, lt, ge) in subst Fits same fits
  ]

  -- of so many words all fit, or one is the first that doesn't
  fit_or_first : (n : ℕ) → ((k : ℕ) → k < n → Fits k) ⊎ IsFirstOf n
  fit_or_first zero = inl (λ k lt. absurd (omega (arith, lt)))
  fit_or_first (suc n) = elim (fit_or_first n) [
    | inr first ↦
        inr (record { address = first.address; there = let t = first.there in omega (arith, t); wide = first.wide; earlier = first.earlier })
    | inl all ↦ elim (cases_lt (data_word plan bytes n) (2 ^ plan.word_size)) [
      | inl fits ↦ inl (one_more n all fits)
      | inr over ↦ inr (record { address = n; there = omega arith; wide = λ fits. omega (arith, over, fits); earlier = all })
    ]
  ]

  words_or_fault : WordsOrFault plan bytes
  words_or_fault = elim (cases_eq (length bytes) (data_length plan)) [
    | inr off ↦ inr (DataLength (length bytes), λ e. absurd (cc), (refl, off))
    | inl whole ↦ elim (fit_or_first plan.num_words) [
      | inr first ↦
          inr (DataBits first.address, λ e. absurd (cc), record { whole = whole; there = first.there; wide = first.wide; earlier = first.earlier })
      | inl fit ↦
          let word = data_word plan bytes in
          let at : (k : ℕ) → k < plan.num_words → get_or (map word (range_with_len 0 plan.num_words)) k 0 ≡ word k =
          λ k lt. get_or-map-range_with_len word 0 plan.num_words k k 0 lt (omega arith) in
          inl (
            map word (range_with_len 0 plan.num_words),
            record {
              whole = whole;
              stored =
                  record {
                    count = length-map-range_with_len word 0 plan.num_words;
                    fit = λ k lt. subst (FitsWord plan.word_size) (sym (at k lt))
                        (fit k lt);
                  };
              each = at;
            },
          )
    ]
  ]

pub words_answer : WordsAnswer
words_answer = words_or_fault
