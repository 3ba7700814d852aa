-- The answers of a read-only memory.
use Rattle.std.proofs.Common.{ℕ, zero, suc, ◌<◌, List, [], ◌∷◌, refl, arith, inl}
use Rattle.std.specs.Prelude.{slice_index}
use Rattle.std.specs.List.{AllByRecursion}
use Rattle.rom_laws.specs.RomRun.{IsRomPlan, AreWordsFor}
use Rattle.rom_laws.specs.Example.{example_plan, example_words, example_commands, RomExampleAnswers}
use Rattle.rom_laws.proofs.RomRuns.{rom_answers_with}

stands : IsRomPlan example_plan
stands = record {
  buildable = record { words = omega arith; rows = omega arith; columns = omega arith; banks = omega arith; choices = omega arith; sizes = (inl refl, (inl refl, tt)); groups = inl refl; masks = inl refl };
  read_only = refl;
  one_bank = refl;
  whole = refl;
}

fits_at : (n : ℕ) (words : List ℕ) (a : ℕ) → 0 < n → AllByRecursion (λ (word : ℕ). word < n) words → slice_index words a < n
fits_at n [] a some all = some
fits_at n (word ∷ words) zero some all = all.0
fits_at n (word ∷ words) (suc a) some all = fits_at n words a some all.1

words : AreWordsFor example_plan example_words
words = record {
  count = refl;
  fit = λ a h. fits_at 4 example_words a (omega arith) (omega arith, (omega arith, (omega arith, (omega arith, (omega arith, (omega arith, (omega arith, (omega arith, (omega arith, (omega arith, (omega arith, (omega arith, (omega arith, (omega arith, (omega arith, (omega arith, tt))))))))))))))));
}

pub example_answers : RomExampleAnswers
example_answers = record {
  stands = stands;
  words = words;
  answers = λ s vs end start run. rom_answers_with example_plan example_words stands words s example_commands vs end start (omega arith, (omega arith, tt)) run;
}
