-- The windows: 540 small macros, and their plans.
use Rattle.std.specs.Prelude.{ℕ, ◌+◌, ◌*◌, ◌/◌, ◌==◌, List, [], ◌∷◌, map, if◌then◌else◌}
use Rattle.std.specs.List.{flat_map}
use Rattle.sram_plan.specs.declared.numbers.Plan.{Plan}
use Rattle.sram_plan.specs.Plan.{row_groups}
use Rattle.kit_check.specs.declared.window.Window.{Window}
use Rattle.kit_check.specs.declared.window.WordSizes.{WordSizes}

abbrev pub sizes_of_word : ℕ → ℕ → WordSizes
sizes_of_word word write = record { word_size = word; write_size = write }

-- a word has 1 to 5 bits, and they are written one by one or all at once
abbrev pub word_sizes : List WordSizes
word_sizes = sizes_of_word 1 1 ∷ sizes_of_word 2 1 ∷ sizes_of_word 2 2 ∷ sizes_of_word 3 1 ∷ sizes_of_word 3 3 ∷ sizes_of_word 4 1 ∷ sizes_of_word 4 4 ∷ sizes_of_word 5 1 ∷ sizes_of_word 5 5 ∷ []

-- how many words a row has, rows a bank, and banks the macro
abbrev pub window_words : List ℕ
window_words = 1 ∷ 2 ∷ 4 ∷ 8 ∷ []

abbrev pub window_rows : List ℕ
window_rows = 16 ∷ 32 ∷ 64 ∷ 128 ∷ 256 ∷ []

abbrev pub window_banks : List ℕ
window_banks = 1 ∷ 2 ∷ 4 ∷ []

abbrev pub window_with : WordSizes → ℕ → ℕ → ℕ → Window
window_with size wpr rows banks = record { word_size = size.word_size; write_size = size.write_size; wpr = wpr; rows = rows; banks = banks }

-- each combination of these, in rising order of the five numbers
abbrev pub windows_of_rows : WordSizes → ℕ → ℕ → List Window
windows_of_rows size wpr rows = map (window_with size wpr rows) window_banks

abbrev pub windows_of_words : WordSizes → ℕ → List Window
windows_of_words size wpr = flat_map (windows_of_rows size wpr) window_rows

abbrev pub windows_of_size : WordSizes → List Window
windows_of_size size = flat_map (windows_of_words size) window_words

unfoldable pub all_windows : List Window
all_windows = flat_map windows_of_size word_sizes

-- how many bits choose one of 1, 2, 4 or 8, and one of 16 to 256 rows
abbrev pub bits_of_count : ℕ → ℕ
bits_of_count count = if count == 1 then 0 else (if count == 2 then 1 else (if count == 4 then 2 else 3))

abbrev pub bits_of_rows : ℕ → ℕ
bits_of_rows rows = if rows == 16 then 4 else (if rows == 32 then 5 else (if rows == 64 then 6 else (if rows == 128 then 7 else 8)))

-- The plan of a window.
abbrev pub plan_of : Window → Plan
plan_of w = record {
  word_size = w.word_size;
  write_size = w.write_size;
  masks = if w.write_size == w.word_size then 0 else w.word_size / w.write_size;
  banks = w.banks;
  num_words = w.banks * (w.rows * w.wpr);
  wpr = w.wpr;
  rows = w.rows;
  columns = w.word_size * w.wpr;
  addr_bits = bits_of_count w.wpr + bits_of_rows w.rows + bits_of_count w.banks;
  col_bits = bits_of_count w.wpr;
  bank_bits = bits_of_count w.banks;
  groups = row_groups w.rows;
}
