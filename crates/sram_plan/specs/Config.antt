-- What holds of every configuration that is read.
use Rattle.std.specs.Prelude.{◌≡◌, ℕ, ◌<◌, ◌≤◌, ◌%◌, List, [], ◌∷◌, Bool, ◌&&◌, ◌||◌, not, nat_le, nat_eq, length, false, IfSome, IsTrue}
use Rattle.std.specs.List.{list_all}
use Rattle.sram_netlist.specs.Membership.{IsOneOf}
use Rattle.sram_plan.specs.Keywords.{is_keyword}
use Rattle.sram_plan.specs.declared.config.Config.{Config}

-- the values that some keys may have
abbrev pub word_counts : List ℕ
word_counts = 16 ∷ 32 ∷ 64 ∷ 128 ∷ 256 ∷ 512 ∷ 1024 ∷ 2048 ∷ 4096 ∷ 8192 ∷ []

abbrev pub row_counts : List ℕ
row_counts = 1 ∷ 2 ∷ 4 ∷ 8 ∷ []

abbrev pub bank_counts : List ℕ
bank_counts = 1 ∷ 2 ∷ 4 ∷ []

-- 1 to 200 printable ASCII characters
abbrev pub is_printable_byte : ℕ → Bool
is_printable_byte b = nat_le 32 b && nat_le b 126

abbrev pub is_file_text : List ℕ → Bool
is_file_text text = (nat_le 1 (length text) && nat_le (length text) 200) && list_all is_printable_byte text

-- letters, digits and _
abbrev pub is_letter_byte : ℕ → Bool
is_letter_byte b = (nat_le 65 b && nat_le b 90) || (nat_le 97 b && nat_le b 122)

abbrev pub is_name_char : ℕ → Bool
is_name_char b = is_letter_byte b || ((nat_le 48 b && nat_le b 57) || nat_eq b 95)

abbrev pub starts_with_letter : List ℕ → Bool
starts_with_letter [] = false
starts_with_letter (b ∷ bs) = is_letter_byte b

-- 1 to 24 of them, a letter first
abbrev pub is_identifier : List ℕ → Bool
is_identifier text = nat_le (length text) 24 && (starts_with_letter text && list_all is_name_char text)

-- such a text, but no word that Verilog keeps
abbrev pub is_output_name : List ℕ → Bool
is_output_name text = is_identifier text && not (is_keyword text)

pub record IsConfig (config : Config) : Type 0 where
  pub some_bits : 0 < config.word_size
  pub few_bits : config.word_size ≤ 64
  pub words : IsOneOf config.num_words word_counts
  pub words_per_row : IfSome config.words_per_row (λ w. IsOneOf w row_counts)
  pub banks : IsOneOf config.num_banks bank_counts
  pub some_written : 0 < config.write_size
  pub few_written : config.write_size ≤ config.word_size
  pub written : config.word_size % config.write_size ≡ 0
  pub tech_name : IsTrue (is_file_text config.tech_name)
  pub output_path : IfSome config.output_path (λ path. IsTrue (is_file_text path))
  pub output_name : IsTrue (is_output_name config.output_name)
