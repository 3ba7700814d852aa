-- Runs of a read-only memory.
use Rattle.std.proofs.Common.{◌≡◌, ℕ, ◌+◌, ◌*◌, ◌/◌, ◌%◌, ◌<◌, Bool, true, false, cond, ◌&&◌, not, List, [], ◌∷◌, map, refl, ap, ◌∙◌, arith}
use Rattle.std.specs.Prelude.{slice_index}
use Rattle.std.proofs.lemmas.Nat.{div-mul-add, mod-mul-add, div-add-mod'}
use Rattle.std.proofs.Math.Nat.{mod-eq_of_lt}
use Rattle.sram_netlist.specs.Organization.{Organization, power_of_two, words_per_row}
use Rattle.sram_netlist.specs.Nets.{Net, Dout}
use Rattle.sram_netlist.specs.Netlist.{lowest_bit, high_bits}
use Rattle.sram_netlist.specs.BitCells.{read_only}
use Rattle.memory_laws.specs.Phase.{State}
use Rattle.memory_laws.specs.Run.{bit_of, port_values, IsCycle, IsCommandRun, Words, num_words, bank_words, row_of, choice_of, contents, words_after, SameWords, AnswersEachRead, AreInRange}
use Rattle.memory_laws.proofs.Circuits.{flipped, start_same, run_same}
use Rattle.memory_laws.proofs.Decode.{twice_some}
use Rattle.memory_laws.proofs.Direct.{direct}
use Rattle.memory_laws.proofs.NumberArrayLaws.{number_same, number_of_bits}
use Rattle.memory_laws.proofs.Runs.{masks_fit, answers, runs_exist}
use Rattle.rom_laws.specs.RomRun.{IsRomPlan, RomCommand, read_command, rom_circuit, AreWordsFor, HaveRomAddresses, rom_answers, rom_run_answers}
use Rattle.rom_laws.specs.Laws.{HasRomRuns, AnswersWithWords}
use Rattle.rom_laws.proofs.RomCircuit.{rom_direct, rom_same}
use Rattle.rom_laws.proofs.Mirror.{Follows}
use Rattle.rom_laws.proofs.Resting.{phase_of_read, follows_next}
use Rattle.rom_laws.proofs.Extended.{extended, extended_value, extended_follows, extended_start, extended_phase}

-- A run of a read-write memory that holds the words and reads is one of the read-only memory
reads_run : (p : Organization) (ok : IsRomPlan p) (words : List ℕ) (cs : List RomCommand) (s t : State) → Follows p words s t → (vs : List (Net → Bool)) (end : State)
    → IsCommandRun (direct p) t (map read_command cs) vs end → (last : State) × IsCommandRun (rom_direct p words) s (map read_command cs) vs last
reads_run p ok words [] s t f vs end run = (s, (run.0, refl))
reads_run p ok words (c ∷ cs) s t f [] end run = absurd run
reads_run p ok words (c ∷ cs) s t f (v ∷ vs) end run =
    let a = run.1 in
    let high = port_values true (read_command c) in
    let low = port_values false (read_command c) in
    let f1 = follows_next p ok words t high a.first a.s1 f.reads refl a.fetch s f in
    let f2 = follows_next p ok words a.s1 low a.second a.s2 f1.reads refl a.select a.s1 f1 in
    let f3 = follows_next p ok words a.s2 low v run.0 f2.reads refl a.finish a.s2 f2 in
    let rest = reads_run p ok words cs run.0 run.0 f3 vs end run.2 in (
      rest.0,
      (
        run.0,
        record {
          first = a.first;
          second = a.second;
          s1 = a.s1;
          s2 = a.s2;
          fetch = phase_of_read p ok words t high a.first a.s1 f.reads refl a.fetch s f;
          select = phase_of_read p ok words a.s1 low a.second a.s2 f1.reads refl a.select a.s1 f1;
          finish = phase_of_read p ok words a.s2 low v run.0 f2.reads refl a.finish a.s2 f2;
        },
        rest.1,
      ),
    )

pub rom_runs : (p : Organization) (words : List ℕ) → IsRomPlan p → HasRomRuns (read_only p) words
rom_runs p words ok s cs =
    let run = runs_exist p (extended p words s) (map read_command cs) in
    let read = reads_run p ok words cs s (extended p words s) (extended_follows p words s) run.0 run.1 run.2 in
    (run.0, read.0, run_same (rom_direct p words) (rom_circuit (read_only p) words) (flipped (rom_circuit (read_only p) words) (rom_direct p words) (rom_same p words ok)) s (map read_command cs) run.0 read.0 read.1)

-- And a run of the read-only memory is one of a read-write memory
abbrev pub extended_cycle : (p : Organization) → IsRomPlan p → (words : List ℕ) (c : RomCommand) (s : State) (v : Net → Bool) (end : State)
    → IsCycle (rom_direct p words) s (read_command c) v end → IsCycle (direct p) (extended p words s) (read_command c) (extended_value v) (extended p words end)
extended_cycle p ok words c s v end a = record {
  first = extended_value a.first;
  second = extended_value a.second;
  s1 = extended p words a.s1;
  s2 = extended p words a.s2;
  fetch = extended_phase p ok words s (port_values true (read_command c)) a.first a.s1 refl (λ j. refl) a.fetch;
  select = extended_phase p ok words a.s1 (port_values false (read_command c)) a.second a.s2 refl (λ j. refl) a.select;
  finish = extended_phase p ok words a.s2 (port_values false (read_command c)) v end refl (λ j. refl) a.finish;
}

extended_run : (p : Organization) (ok : IsRomPlan p) (words : List ℕ) (cs : List RomCommand) (s : State) (vs : List (Net → Bool)) (end : State)
    → IsCommandRun (rom_direct p words) s (map read_command cs) vs end → IsCommandRun (direct p) (extended p words s) (map read_command cs) (map extended_value vs) (extended p words end)
extended_run p ok words [] s vs end run = (ap (map extended_value) run.0, ap (extended p words) run.1)
extended_run p ok words (c ∷ cs) s [] end run = absurd run
extended_run p ok words (c ∷ cs) s (v ∷ vs) end run = (extended p words run.0, extended_cycle p ok words c s v run.0 run.1, extended_run p ok words cs run.0 vs end run.2)

-- The words of the data, by address and bit
abbrev data_words : List ℕ → Words
data_words words a i = bit_of (slice_index words a) i

one_bank_words : (p : Organization) → IsRomPlan p → bank_words p ≡ num_words p
one_bank_words p ok = let e : num_words p / 1 ≡ num_words p = omega arith in (λ j. num_words p / power_of_two (ok.one_bank j)) ∙ e

-- they are what the memory holds
holds : (p : Organization) (ok : IsRomPlan p) (words : List ℕ) (s : State) → SameWords p (contents p (extended p words s)) (data_words words)
holds p ok words s a i range few =
    let wpr = words_per_row p in
    let k = choice_of p a in
    let inside : k < wpr = let h = twice_some p.col_bits in omega arith in
    let slice : (i * wpr + k) / wpr ≡ i = div-mul-add i wpr k inside in
    let choice : (i * wpr + k) % wpr ≡ k = mod-mul-add i wpr k inside in
    let whole : a % bank_words p ≡ a = ap (λ (n : ℕ). a % n) (one_bank_words p ok) ∙ mod-eq_of_lt range in
    let place : row_of p a * wpr + k ≡ a = div-add-mod' (a % bank_words p) wpr ∙ whole in
    (λ j. lowest_bit (high_bits (slice j) (slice_index words (row_of p a * wpr + choice j)))) ∙ ap (λ (n : ℕ). lowest_bit (high_bits i (slice_index words n))) place

-- a read leaves the words
unchanged : (csb d u : Bool) → cond (not csb && false) d u ≡ u
unchanged true d u = refl
unchanged false d u = refl

one_answer : (csb : Bool) (x y : ℕ) (xs ys : List ℕ) → (csb ≡ false → x ≡ y) → xs ≡ ys → cond csb xs (x ∷ xs) ≡ cond csb ys (y ∷ ys)
one_answer true x y xs ys h e = e
one_answer false x y xs ys h e = λ k. h refl k ∷ e k

answers_are : (p : Organization) (words : List ℕ) → AreWordsFor p words → (cs : List RomCommand) (s : State) (held : Words) (vs : List (Net → Bool)) (end : State)
    → HaveRomAddresses p cs → ((a i : ℕ) → held a i ≡ data_words words a i) → IsCommandRun (rom_direct p words) s (map read_command cs) vs end → AnswersEachRead p (map read_command cs) held (map extended_value vs)
    → rom_run_answers p cs vs ≡ rom_answers words cs
answers_are p words are [] s held vs end range same run given = refl
answers_are p words are (c ∷ cs) s held [] end range same run given = absurd run
answers_are p words are (c ∷ cs) s held (v ∷ vs) end range same run given =
    one_answer c.csb _ _ _ _ (λ low.
    number_same (λ i. v (Dout i)) (bit_of (slice_index words c.addr)) p.word_size (λ i few. given.0 low refl i few ∙ same c.addr i)
    ∙ number_of_bits (slice_index words c.addr) p.word_size (are.fit c.addr range.0))
    (answers_are p words are cs run.0 (words_after p (read_command c) held) vs end range.1 (λ a i. unchanged c.csb false (held a i) ∙ same a i) run.2 given.1)

in_range : (p : Organization) (cs : List RomCommand) → HaveRomAddresses p cs → AreInRange p (map read_command cs)
in_range p [] h = tt
in_range p (c ∷ cs) h = (h.0, in_range p cs h.1)

pub rom_answers_with : (p : Organization) (words : List ℕ) → IsRomPlan p → AreWordsFor p words → AnswersWithWords (read_only p) words
rom_answers_with p words ok are s cs vs end start range run =
    let read = run_same (rom_circuit (read_only p) words) (rom_direct p words) (rom_same p words ok) s (map read_command cs) vs end run in
    let begun = extended_start p ok words s (start_same (rom_circuit (read_only p) words) (rom_direct p words) (rom_same p words ok) s start) in
    let all = answers p (masks_fit p ok.buildable) (map read_command cs) (extended p words s) (data_words words) (map extended_value vs) (extended p words end) begun (in_range p cs range) (holds p ok words s)
    (extended_run p ok words cs s vs end read) in
    answers_are p words are cs s (data_words words) vs end range (λ a i. refl) read all.0
