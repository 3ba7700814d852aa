-- A read-only memory's text has the tokens of its module.
use Rattle.std.proofs.Common.{◌≡◌, ℕ, zero, suc, ◌+◌, ◌/◌, ◌%◌, ◌<◌, List, [], ◌∷◌, ◌++◌, map, Bool, true, false, cond, ◌&&◌, ◌||◌, nat_le, nat_lt, nat_eq, codes, flat_map, refl, sym, ap, ◌∙◌, append_assoc, arith, le-leb, ltb-true, ltb-false, leb-true}
use Rattle.std.specs.Prelude.{slice_index}
use Rattle.std.specs.List.{list_all, range_with_len}
use Rattle.std.specs.Char.{digit_char}
use Rattle.std.specs.Fmt.{decimal}
use Rattle.std.proofs.lemmas.List.{append-nil}
use Rattle.std.proofs.lemmas.List.Folds.{list_all-append}
use Rattle.sram_plan.specs.declared.numbers.Plan.{Plan}
use Rattle.rom_data.specs.Hex.{hex_digit_count, hex_digits}
use Rattle.rom_data.specs.RomVerilog.{content_line, content_lines, initial_lines, rom_header_lines, rom_size_lines, rom_declaration_lines, rom_clock_lines, rom_text}
use Rattle.or_geom.specs.Texts.{is_word_byte}
use Rattle.verilog_modules.specs.Tokens.{tokens_of, with_head}
use Rattle.verilog_modules.specs.Grammar.{joined, one_token, hex_token, setting_tokens, initial_tokens, parameter_tokens, declaration_tokens, always_tokens, module_tokens}
use Rattle.verilog_modules.specs.Names.{is_hex_digit}
use Rattle.verilog_modules.proofs.TokenLaws.{IsWord, word_ends, flat_append}
use Rattle.verilog_laws.proofs.SpellLaws.{text_tokens, number_ends, bracket_alone, first_line, data_line, addr_line}
use Rattle.rom_verilog_laws.specs.Rom.{setting, settings, rom_module, rom_ports, rom_parameters, rom_declarations, rom_rising, rom_falling}

-- Digits

either_true : (a b : Bool) → b ≡ true → (a || b) ≡ true
either_true true b e = refl
either_true false b e = e

both : (a b : Bool) → a ≡ true → b ≡ true → (a && b) ≡ true
both true b e f = f
both false b e f = absurd cc

and_parts : (a b : Bool) → (a && b) ≡ true → (a ≡ true) × (b ≡ true)
and_parts true b e = (refl, e)
and_parts false b e = absurd cc

first_true : (a b : Bool) → a ≡ true → (a || b) ≡ true
first_true true b e = refl
first_true false b e = absurd cc

digit_is_hex : (d : ℕ) → d < 16 → is_hex_digit (digit_char d) ≡ true
digit_is_hex d h = by (nat_lt d 10) refl where
  by : (b : Bool) → nat_lt d 10 ≡ b → is_hex_digit (cond b (48 + d) (87 + d)) ≡ true
  by true e =
      let low = ltb-true d 10 e in
      first_true (nat_le 48 (48 + d) && nat_le (48 + d) 57) _ (both (nat_le 48 (48 + d)) (nat_le (48 + d) 57) (le-leb 48 (48 + d) (omega arith)) (le-leb (48 + d) 57 (omega (arith, low))))
  by false e =
      let high = ltb-false d 10 e in
      either_true (nat_le 48 (87 + d) && nat_le (87 + d) 57) _
      (first_true (nat_le 97 (87 + d) && nat_le (87 + d) 102) _ (both (nat_le 97 (87 + d)) (nat_le (87 + d) 102) (le-leb 97 (87 + d) (omega (arith, high))) (le-leb (87 + d) 102 (omega (arith, h)))))

pub digits_are_hex : (count n : ℕ) → list_all is_hex_digit (hex_digits count n) ≡ true
digits_are_hex zero n = refl
digits_are_hex (suc count) n =
    list_all-append is_hex_digit (hex_digits count (n / 16)) (digit_char (n % 16) ∷ [])
    ∙ both (list_all is_hex_digit (hex_digits count (n / 16))) (is_hex_digit (digit_char (n % 16)) && true) (digits_are_hex count (n / 16)) (both (is_hex_digit (digit_char (n % 16))) true (digit_is_hex (n % 16) (omega arith)) refl)

hex_is_word : (b : ℕ) → is_hex_digit b ≡ true → is_word_byte b ≡ true
hex_is_word b e = by (nat_le 48 b && nat_le b 57) (nat_le 97 b && nat_le b 102) refl refl where
  letters : nat_le 65 b && nat_le b 70 ≡ true → (nat_le 65 b && nat_le b 90) ≡ true
  letters f = let two = and_parts (nat_le 65 b) (nat_le b 70) f in let most = leb-true b 70 two.1 in both (nat_le 65 b) (nat_le b 90) two.0 (le-leb b 90 (omega (arith, most)))

  by : (x y : Bool) → (nat_le 48 b && nat_le b 57) ≡ x → (nat_le 97 b && nat_le b 102) ≡ y → is_word_byte b ≡ true
  by true y f g = either_true (nat_le 97 b && nat_le b 122) _ (either_true (nat_le 65 b && nat_le b 90) _ (first_true (nat_le 48 b && nat_le b 57) (nat_eq b 95) f))
  by false true f g =
      let two = and_parts (nat_le 97 b) (nat_le b 102) g in let most = leb-true b 102 two.1 in
      first_true (nat_le 97 b && nat_le b 122) _ (both (nat_le 97 b) (nat_le b 122) two.0 (le-leb b 122 (omega (arith, most))))
  by false false f g =
      let capital : (nat_le 65 b && nat_le b 70) ≡ true = (λ k. sym f k || (sym g k || (nat_le 65 b && nat_le b 70))) ∙ e in
      either_true (nat_le 97 b && nat_le b 122) _ (first_true (nat_le 65 b && nat_le b 90) _ (letters capital))

all_words : (digits : List ℕ) → list_all is_hex_digit digits ≡ true → list_all is_word_byte digits ≡ true
all_words [] e = refl
all_words (d ∷ digits) e = let p = and_parts (is_hex_digit d) (list_all is_hex_digit digits) e in both (is_word_byte d) (list_all is_word_byte digits) (hex_is_word d p.0) (all_words digits p.1)

-- Settings

hex_spells : (digits : List ℕ) → list_all is_hex_digit digits ≡ true → tokens_of (39 ∷ 104 ∷ (digits ++ 59 ∷ [])) ≡ hex_token digits ∷ codes ";" ∷ []
hex_spells digits e = ap (with_head 39) (word_ends (104 ∷ digits) 59 [] (record { first = 104; rest = digits; is = refl; bytes = all_words digits e }) refl)

line_cut : (a w h : List ℕ) → a ++ codes "] = " ++ w ++ codes "'h" ++ h ++ codes ";" ≡ a ++ 93 ∷ 32 ∷ 61 ∷ 32 ∷ (w ++ 39 ∷ 104 ∷ (h ++ 59 ∷ []))
line_cut a w h =
    append_assoc (a ++ codes "] = " ++ w ++ codes "'h") h (codes ";")
    ∙ (append_assoc (a ++ codes "] = " ++ w) (codes "'h") (h ++ codes ";") ∙ (append_assoc (a ++ codes "] = ") w (codes "'h" ++ (h ++ codes ";")) ∙ append_assoc a (codes "] = ") (w ++ (codes "'h" ++ (h ++ codes ";")))))

setting_spells : (plan : Plan) (words : List ℕ) (address : ℕ) → tokens_of (content_line plan.word_size address (slice_index words address)) ≡ setting_tokens (setting plan words address)
setting_spells plan words address =
    let w = plan.word_size in let h = hex_digits (hex_digit_count w) (slice_index words address) in
    let rest = 32 ∷ 61 ∷ 32 ∷ (decimal w ++ 39 ∷ 104 ∷ (h ++ 59 ∷ [])) in
    ap (λ (l : List ℕ). tokens_of (codes "    mem[" ++ l)) (line_cut (decimal address) (decimal w) h)
    ∙ (ap (λ (ts : List (List ℕ)). codes "mem" ∷ ts) (bracket_alone (decimal address ++ 93 ∷ rest))
    ∙ ap (λ (ts : List (List ℕ)). codes "mem" ∷ codes "[" ∷ ts)
    (number_ends address 93 rest refl
    ∙ ap (λ (ts : List (List ℕ)). decimal address ∷ codes "]" ∷ codes "=" ∷ ts)
    (number_ends w 39 (104 ∷ (h ++ 59 ∷ [])) refl ∙ ap (λ (ts : List (List ℕ)). decimal w ∷ ts) (hex_spells h (digits_are_hex (hex_digit_count w) (slice_index words address))))))

settings_spell : (plan : Plan) (words addresses : List ℕ)
    → flat_map tokens_of (map (λ address. content_line plan.word_size address (slice_index words address)) addresses) ≡ flat_map setting_tokens (map (setting plan words) addresses)
settings_spell plan words [] = refl
settings_spell plan words (a ∷ addresses) = λ k. setting_spells plan words a k ++ settings_spell plan words addresses k

initial_spells : (plan : Plan) (words : List ℕ) → flat_map tokens_of (initial_lines plan words) ≡ initial_tokens (settings plan words)
initial_spells plan words =
    ap (λ (ts : List (List ℕ)). codes "initial" ∷ codes "begin" ∷ ts)
    (flat_append tokens_of (content_lines plan words) (codes "  end" ∷ []) ∙ (λ k. settings_spell plan words (range_with_len 0 plan.num_words) k ++ codes "end" ∷ []))

-- All lines

sizes_spell : (plan : Plan) → flat_map tokens_of (rom_size_lines plan) ≡ flat_map parameter_tokens (rom_parameters plan)
sizes_spell plan = λ k. data_line plan.word_size k ++ (addr_line plan.addr_bits k ++ tokens_of (codes "  parameter ROM_DEPTH = 1 << ADDR_WIDTH;"))

header_spells : flat_map tokens_of rom_header_lines ≡ joined one_token (tokens_of (codes ",")) rom_ports ++ tokens_of (codes ");")
header_spells = refl

declarations_spell : flat_map tokens_of rom_declaration_lines ≡ flat_map declaration_tokens rom_declarations
declarations_spell = refl

clocks_spell : flat_map tokens_of rom_clock_lines ≡ flat_map always_tokens (rom_rising ∷ rom_falling ∷ []) ++ tokens_of (codes "endmodule")
clocks_spell = refl

gathered : (x y a e : List (List ℕ)) → x ++ y ++ (a ++ e) ≡ x ++ (y ++ []) ++ a ++ e
gathered x y a e = sym (append_assoc (x ++ y) a e) ∙ ap (λ (z : List (List ℕ)). x ++ z ++ a ++ e) (sym (append-nil y))

pub has_tokens : (plan : Plan) (name words : List ℕ) → IsWord name → tokens_of (rom_text plan name words) ≡ module_tokens (rom_module plan name words)
has_tokens plan name words is =
    let p = rom_size_lines plan in let d = rom_declaration_lines in let i = initial_lines plan words in let c = rom_clock_lines in let h = rom_header_lines in
    text_tokens ((codes "module " ++ name ++ codes "(") ∷ (h ++ p ++ d ++ i ++ c))
    ∙ ((λ k. first_line name is k ++ flat_map tokens_of (h ++ p ++ d ++ i ++ c))
    ∙ ap (λ (ts : List (List ℕ)). codes "module" ∷ name ∷ codes "(" ∷ ts)
    (flat_append tokens_of (h ++ p ++ d ++ i) c
    ∙ ((λ k. flat_append tokens_of (h ++ p ++ d) i k ++ flat_map tokens_of c)
    ∙ ((λ k. flat_append tokens_of (h ++ p) d k ++ flat_map tokens_of i ++ flat_map tokens_of c)
    ∙ ((λ k. flat_append tokens_of h p k ++ flat_map tokens_of d ++ flat_map tokens_of i ++ flat_map tokens_of c)
    ∙ ((λ k. header_spells k ++ sizes_spell plan k ++ declarations_spell k ++ initial_spells plan words k ++ clocks_spell k)
    ∙ gathered (joined one_token (tokens_of (codes ",")) rom_ports ++ tokens_of (codes ");") ++ flat_map parameter_tokens (rom_parameters plan) ++ flat_map declaration_tokens rom_declarations) (initial_tokens (settings plan words))
    (flat_map always_tokens (rom_rising ∷ rom_falling ∷ [])) (tokens_of (codes "endmodule"))))))))
