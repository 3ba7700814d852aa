-- The files of a demonstration are bytes.
use Rattle.std.proofs.Common.{◌≡◌, ℕ, zero, suc, ◌+◌, ◌*◌, ◌/◌, ◌%◌, ◌^◌, ◌<◌, ◌≤◌, List, [], ◌∷◌, ◌++◌, Bool, true, nat_lt, refl, arith}
use Rattle.std.specs.Prelude.{codes}
use Rattle.std.specs.Fmt.{decimal, digits}
use Rattle.std.specs.List.{list_all}
use Rattle.std.specs.Str.{IsAscii}
use Rattle.std.proofs.Math.Nat.{mul-le-mul_left}
use Rattle.std.proofs.Math.Pow.{pow_mono}
use Rattle.std.proofs.lemmas.Fmt.{IsAscii-decimal}
use borrow.Author.Tests.{ltb-true}
use Rattle.gds_records.specs.Bytes.{AreBytes, records_bytes}
use Rattle.gds_records.proofs.FileLaws.{are_bytes}
use Rattle.gds_stream.specs.Canonical.{canonical}
use Rattle.spice_text.specs.WrittenText.{deck_text}
use Rattle.demo_kit.specs.Configuration.{demo_configuration}
use Rattle.demo_kit.specs.Layout.{cell_elements, cell_structure, demo_library}
use Rattle.demo_kit.specs.Lines.{heading, number_line, text_line, texts_line}
use Rattle.demo_kit.specs.Numbers.{demo_num_words, demo_scale, demo_word_size}
use Rattle.demo_kit.specs.Subcircuits.{demo_subckts}
use Rattle.demo_kit.specs.Technology.{connect_block, connect_blocks, demo_technology, enclose_block, layer_block, layer_blocks, role_block, rule_blocks, space_block, table_block, width_block, wire_block}
use Rattle.demo_kit.proofs.BoxLaws.{all_joined}
use Rattle.demo_kit.proofs.NameLaws.{both_true}

abbrev is_byte : ℕ → Bool
is_byte b = nat_lt b 256

-- for a text that is written out
written : (bytes : List ℕ) → list_all is_byte bytes ≡ true → AreBytes bytes
written [] all = tt
written (b ∷ bytes) all = let parts = both_true (is_byte b) (list_all is_byte bytes) all in (ltb-true b 256 parts.0, written bytes parts.1)

joined : (xs ys : List ℕ) → AreBytes xs → AreBytes ys → AreBytes (xs ++ ys)
joined = all_joined (λ b. b < 256)

ascii_bytes : (bytes : List ℕ) → IsAscii bytes → AreBytes bytes
ascii_bytes bytes ascii = are_bytes bytes (λ i. let small = ascii i in omega (arith, small))

number_bytes : (key : List ℕ) (number : ℕ) → AreBytes key → number < 2 ^ 64 → AreBytes (number_line key number)
unfolding number_line
number_bytes key number is small =
    joined key (codes " = " ++ (decimal number ++ 10 ∷ [])) is
    (joined (codes " = ") (decimal number ++ 10 ∷ []) (written (codes " = ") refl)
    (joined (decimal number) (10 ∷ []) (ascii_bytes (decimal number) (IsAscii-decimal number small)) (written (10 ∷ []) refl)))

few_bits : (n : ℕ) → demo_word_size n < 2 ^ 64
unfolding demo_word_size
few_bits n = omega arith

few_words : (n : ℕ) → demo_num_words n < 2 ^ 64
unfolding demo_num_words
few_words n =
    let few : n / 60 % 6 ≤ 6 = omega arith in
    let scaled : 16 * 2 ^ (n / 60 % 6) ≤ 16 * 2 ^ 6 = mul-le-mul_left 16 (pow_mono few) in
    omega (arith, scaled)

pub configuration_bytes : (n : ℕ) → AreBytes (demo_configuration n)
unfolding demo_configuration text_line
configuration_bytes n =
    let names = text_line (codes "tech_name") (codes "demo_tech") ++ text_line (codes "output_name") (codes "demo") in
    let words = number_line (codes "num_words") (demo_num_words n) in
    joined (number_line (codes "word_size") (demo_word_size n)) (words ++ names) (number_bytes (codes "word_size") (demo_word_size n) (written (codes "word_size") refl) (few_bits n))
    (joined words names (number_bytes (codes "num_words") (demo_num_words n) (written (codes "num_words") refl) (few_words n)) (written names refl))

-- what holds at each of the four scales holds of each demonstration
at_scale : (P : ℕ → Type 0) → P 1 → P 2 → P 3 → P 4 → (r : ℕ) → r < 4 → P (1 + r)
at_scale P one two three four zero less = one
at_scale P one two three four (suc zero) less = two
at_scale P one two three four (suc (suc zero)) less = three
at_scale P one two three four (suc (suc (suc zero))) less = four
at_scale P one two three four (suc (suc (suc (suc r)))) less = absurd (omega (arith, less))

technology_at : (scale : ℕ) → list_all is_byte (demo_technology scale) ≡ true → AreBytes (demo_technology scale)
technology_at scale = written (demo_technology scale)

pub technology_bytes : (n : ℕ) → AreBytes (demo_technology (demo_scale n))
unfolding digits connect_block connect_blocks demo_technology enclose_block layer_block layer_blocks role_block rule_blocks space_block table_block width_block wire_block heading number_line text_line texts_line
technology_bytes n =
    at_scale (λ scale. AreBytes (demo_technology scale)) (technology_at 1 refl) (technology_at 2 refl) (technology_at 3 refl) (technology_at 4 refl) (n % 4) (omega arith)

library_at : (scale : ℕ) → list_all is_byte (canonical (demo_library scale)) ≡ true → AreBytes (canonical (demo_library scale))
library_at scale = written (canonical (demo_library scale))

pub library_bytes : (n : ℕ) → AreBytes (canonical (demo_library (demo_scale n)))
unfolding cell_elements cell_structure demo_library records_bytes
library_bytes n =
    at_scale (λ scale. AreBytes (canonical (demo_library scale))) (library_at 1 refl) (library_at 2 refl) (library_at 3 refl) (library_at 4 refl) (n % 4) (omega arith)

pub subckts_bytes : AreBytes (deck_text demo_subckts)
unfolding demo_subckts
subckts_bytes = written (deck_text demo_subckts) refl
