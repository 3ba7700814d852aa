use Rattle.std.proofs.Common.{◌≡◌, ◌<◌, ℕ, length, get_or}
use Rattle.rom_data.specs.Words.{data_word, FitsWord}
use Rattle.rom_data.proofs.words.split_words.Given as goal

-- the words so far, each of which fits
abbrev pub invariant-loop-address : goal.invariant-loop-address
invariant-loop-address l = record {
  count : length l.words ≡ l.address;
  each : (k : ℕ) → k < l.address → get_or l.words k 0 ≡ data_word l.plan l.bytes k;
  fit : (k : ℕ) → k < l.address → FitsWord l.plan.word_size (data_word l.plan l.bytes k);
}
