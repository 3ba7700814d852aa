-- What the number of a demonstration chooses.
use Rattle.std.specs.Prelude.{ℕ, ◌+◌, ◌*◌, ◌/◌, ◌%◌, ◌^◌}

-- by which all lengths are multiplied
abbrev pub demo_scale : ℕ → ℕ
demo_scale n = 1 + n % 4

-- bits of a word
unfoldable pub demo_word_size : ℕ → ℕ
demo_word_size n = 2 + (n / 4) % 15

unfoldable pub demo_num_words : ℕ → ℕ
demo_num_words n = 16 * 2 ^ ((n / 60) % 6)
