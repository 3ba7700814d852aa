-- Runs answer as an array of numbers.
use Rattle.std.proofs.Common.{◌≡◌, ℕ, zero, suc, ◌+◌, ◌*◌, ◌/◌, ◌<◌, List, [], ◌∷◌, map, Bool, true, false, ◌&&◌, not, nat_eq, cond, refl, sym, ap, ◌∙◌, arith}
use Rattle.sram_netlist.specs.Organization.{Organization, power_of_two}
use Rattle.sram_netlist.specs.Netlist.{lowest_bit, low_bits}
use Rattle.sram_netlist.specs.Nets.{Net, Dout}
use Rattle.memory_laws.specs.NetlistCircuit.{circuit}
use Rattle.memory_laws.specs.Phase.{State}
use Rattle.memory_laws.specs.Run.{bit_of, IsCommandRun, Words, num_words, contents, words_after, words_after_all, is_masked_in, AnswersRead, AnswersEachRead, AreInRange}
use Rattle.memory_laws.specs.NumberArray.{NumberCommand, command_bits, number, merged, numbers_after, numbers_after_all, array_answers, run_answers, word_at, HaveAddresses, RunsAnswerNumbers}
use Rattle.memory_laws.proofs.Decode.{built_odd, built_half, low_all}
use Rattle.memory_laws.proofs.Plans.{runs_answer}

-- numbers of equal bits are equal
pub number_same : (f g : ℕ → Bool) (n : ℕ) → ((i : ℕ) → i < n → f i ≡ g i) → number f n ≡ number g n
number_same f g zero h = refl
number_same f g (suc n) h = let low = h 0 (omega arith) in λ k. cond (low k) 1 0 + 2 * number_same (λ j. f (suc j)) (λ j. g (suc j)) n (λ i lt. h (suc i) (omega arith)) k

fits_with : (t : Bool) (m n : ℕ) → m < n → cond t 1 0 + 2 * m < 2 * n
fits_with true m n h = omega arith
fits_with false m n h = omega arith

number_fits : (f : ℕ → Bool) (n : ℕ) → number f n < power_of_two n
number_fits f zero = omega arith
number_fits f (suc n) = fits_with (f 0) (number (λ j. f (suc j)) n) (power_of_two n) (number_fits (λ j. f (suc j)) n)

-- the bits of a number of bits
pub number_bit : (f : ℕ → Bool) (n i : ℕ) → i < n → bit_of (number f n) i ≡ f i
number_bit f zero i h = absurd (omega arith)
number_bit f (suc n) zero h = built_odd (f 0) (number (λ j. f (suc j)) n)
number_bit f (suc n) (suc i) h = ap (λ (x : ℕ). bit_of x i) (built_half (f 0) (number (λ j. f (suc j)) n)) ∙ number_bit (λ j. f (suc j)) n i (omega arith)

-- the number of a number's bits
number_low : (x n : ℕ) → number (bit_of x) n ≡ low_bits n x
number_low x zero = refl
number_low x (suc n) = ap (λ (m : ℕ). cond (lowest_bit x) 1 0 + 2 * m) (number_low (x / 2) n)

pub number_of_bits : (x n : ℕ) → x < power_of_two n → number (bit_of x) n ≡ x
number_of_bits x n h = number_low x n ∙ low_all n x h

-- words by bits and words as numbers are the same
record Hold (plan : Organization) (bits : Words) (words : ℕ → ℕ) : Type 0 where
  pub fit : (a : ℕ) → a < num_words plan → words a < power_of_two plan.word_size
  pub same : (a i : ℕ) → a < num_words plan → i < plan.word_size → bits a i ≡ bit_of (words a) i

module _ (plan : Organization) where
  fit_after : (b : Bool) (c : NumberCommand) (word : ℕ) → word < power_of_two plan.word_size → cond b (merged plan c word) word < power_of_two plan.word_size
  fit_after true c word h = number_fits _ plan.word_size
  fit_after false c word h = h

  -- one bit, where the command writes at this address or doesn't
  bit_after : (csb web here : Bool) (c : NumberCommand) (bit : Bool) (word i : ℕ) → i < plan.word_size → bit ≡ bit_of word i
      → cond (not csb && (not web && (here && is_masked_in plan.masks plan.write_size (command_bits c) i))) (bit_of c.din i) bit
      ≡ bit_of (cond (not csb && (not web && here)) (merged plan c word) word) i
  bit_after true web here c bit word i lt same = same
  bit_after false true here c bit word i lt same = same
  bit_after false false false c bit word i lt same = same
  bit_after false false true c bit word i lt same =
      ap (λ (t : Bool). cond (is_masked_in plan.masks plan.write_size (command_bits c) i) (bit_of c.din i) t) same
      ∙ sym (number_bit (λ j. cond (is_masked_in plan.masks plan.write_size (command_bits c) j) (bit_of c.din j) (bit_of word j)) plan.word_size i lt)

  hold_after : (c : NumberCommand) (bits : Words) (words : ℕ → ℕ) → Hold plan bits words → Hold plan (words_after plan (command_bits c) bits) (numbers_after plan c words)
  hold_after c bits words h = record {
    fit = λ a lt. fit_after (not c.csb && (not c.web && nat_eq a c.addr)) c (words a) (h.fit a lt);
    same = λ a i lt few. bit_after c.csb c.web (nat_eq a c.addr) c (bits a i) (words a) i few (h.same a i lt few);
  }

  hold_all : (cs : List NumberCommand) (bits : Words) (words : ℕ → ℕ) → Hold plan bits words → Hold plan (words_after_all plan (map command_bits cs) bits) (numbers_after_all plan cs words)
  hold_all [] bits words h = h
  hold_all (c ∷ cs) bits words h = hold_all cs (words_after plan (command_bits c) bits) (numbers_after plan c words) (hold_after c bits words h)

  -- the number on the outputs at a read
  read_number : (c : NumberCommand) (bits : Words) (words : ℕ → ℕ) (v : Net → Bool) → Hold plan bits words → c.addr < num_words plan → AnswersRead plan (command_bits c) bits v
      → c.csb ≡ false → c.web ≡ true → number (λ i. v (Dout i)) plan.word_size ≡ words c.addr
  read_number c bits words v h lt answers low read =
      number_same (λ i. v (Dout i)) (bit_of (words c.addr)) plan.word_size (λ i few. answers low read i few ∙ h.same c.addr i lt few)
      ∙ number_of_bits (words c.addr) plan.word_size (h.fit c.addr lt)

  one_answer : (csb web : Bool) (x y : ℕ) (xs ys : List ℕ) → (csb ≡ false → web ≡ true → x ≡ y) → xs ≡ ys → cond (not csb && web) (x ∷ xs) xs ≡ cond (not csb && web) (y ∷ ys) ys
  one_answer true web x y xs ys h e = e
  one_answer false false x y xs ys h e = e
  one_answer false true x y xs ys h e = λ k. h refl refl k ∷ e k

  answers_are : (cs : List NumberCommand) (s : State) (bits : Words) (words : ℕ → ℕ) (vs : List (Net → Bool)) (end : State) → Hold plan bits words → HaveAddresses plan cs
      → IsCommandRun (circuit plan) s (map command_bits cs) vs end → AnswersEachRead plan (map command_bits cs) bits vs → run_answers plan cs vs ≡ array_answers plan cs words
  answers_are [] s bits words vs end h range run answers = refl
  answers_are (c ∷ cs) s bits words [] end h range run answers = absurd run
  answers_are (c ∷ cs) s bits words (v ∷ vs) end h range run answers =
      one_answer c.csb c.web _ _ _ _ (read_number c bits words v h range.0 answers.0)
      (answers_are cs run.0 (words_after plan (command_bits c) bits) (numbers_after plan c words) vs end (hold_after c bits words h) range.1 run.2 answers.1)

  in_range : (cs : List NumberCommand) → HaveAddresses plan cs → AreInRange plan (map command_bits cs)
  in_range [] h = tt
  in_range (c ∷ cs) h = (h.0, in_range cs h.1)

  start_holds : (s : State) → Hold plan (contents plan s) (word_at plan s)
  start_holds s = record {
    fit = λ a lt. number_fits (contents plan s a) plan.word_size;
    same = λ a i lt few. sym (number_bit (contents plan s a) plan.word_size i few);
  }

pub runs_answer_numbers : RunsAnswerNumbers
runs_answer_numbers plan s cs vs end ok some start range run =
    let r = runs_answer plan s (map command_bits cs) vs end ok some start (in_range plan cs range) run in
    let last = hold_all plan cs (contents plan s) (word_at plan s) (start_holds plan s) in (
      answers_are plan cs s (contents plan s) (word_at plan s) vs end (start_holds plan s) range run r.0,
      λ a lt. number_same (contents plan end a) (bit_of (numbers_after_all plan cs (word_at plan s) a)) plan.word_size (λ i few. r.1 a i lt few ∙ last.same a i lt few)
          ∙ number_of_bits (numbers_after_all plan cs (word_at plan s) a) plan.word_size (last.fit a lt),
    )
