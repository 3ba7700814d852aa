-- A memory's Verilog text has the tokens of its module.
use Rattle.std.proofs.Common.{◌≡◌, ℕ, zero, suc, ◌+◌, ◌-◌, ◌*◌, List, [], ◌∷◌, ◌++◌, Bool, true, false, cond, nat_lt, codes, flat_map, refl, sym, ap, ◌∙◌, append_assoc}
use Rattle.std.specs.List.{range_with_len}
use Rattle.std.proofs.lemmas.List.{append-nil}
use Rattle.std.specs.Fmt.{decimal}
use Rattle.sram_plan.specs.declared.numbers.Plan.{Plan}
use Rattle.macro_views.specs.Lines.{text_of_lines}
use Rattle.macro_views.specs.Verilog.{verilog_text, header_lines, parameter_line, parameter_lines, declaration_lines, latch_lines, mask_lines, guard_line, choice_line, masked_lines, whole_lines, falling_edge_lines, size_lines}
use Rattle.verilog_modules.specs.Tree.{Number}
use Rattle.or_geom.specs.Texts.{is_word_byte}
use Rattle.verilog_modules.specs.Tokens.{tokens_of}
use Rattle.verilog_modules.specs.Grammar.{module_tokens, parameter_tokens, declaration_tokens, always_tokens, body_tokens, joined, one_token}
use Rattle.verilog_laws.specs.Memory.{memory_module, module_of, parameters, declarations, rising, falling, memory_ports, part_writes}
use Rattle.verilog_modules.proofs.TokenLaws.{IsWord, word_ends, line_ends, flat_append, decimal_word}

-- the tokens of lines
pub text_tokens : (lines : List (List ℕ)) → tokens_of (text_of_lines lines) ≡ flat_map tokens_of lines
text_tokens [] = refl
text_tokens (line ∷ lines) = line_ends line (text_of_lines lines) ∙ ap (λ (ts : List (List ℕ)). tokens_of line ++ ts) (text_tokens lines)

pub number_ends : (n c : ℕ) (rest : List ℕ) → is_word_byte c ≡ false → tokens_of (decimal n ++ c ∷ rest) ≡ decimal n ∷ tokens_of (c ∷ rest)
number_ends n c rest e = word_ends (decimal n) c rest (decimal_word n) e

pub first_line : (name : List ℕ) → IsWord name → tokens_of (codes "module " ++ name ++ codes "(") ≡ codes "module" ∷ name ∷ codes "(" ∷ []
first_line name is = ap (λ (ts : List (List ℕ)). codes "module" ∷ ts) (word_ends name 40 [] is refl)

masks_line : (n : ℕ) → tokens_of (parameter_line (codes "NUM_WMASKS") n) ≡ parameter_tokens (record { name = codes "NUM_WMASKS"; amount = Number n })
masks_line n = ap (λ (ts : List (List ℕ)). codes "parameter" ∷ codes "NUM_WMASKS" ∷ codes "=" ∷ ts) (number_ends n 59 [] refl)

pub data_line : (n : ℕ) → tokens_of (parameter_line (codes "DATA_WIDTH") n) ≡ parameter_tokens (record { name = codes "DATA_WIDTH"; amount = Number n })
data_line n = ap (λ (ts : List (List ℕ)). codes "parameter" ∷ codes "DATA_WIDTH" ∷ codes "=" ∷ ts) (number_ends n 59 [] refl)

pub addr_line : (n : ℕ) → tokens_of (parameter_line (codes "ADDR_WIDTH") n) ≡ parameter_tokens (record { name = codes "ADDR_WIDTH"; amount = Number n })
addr_line n = ap (λ (ts : List (List ℕ)). codes "parameter" ∷ codes "ADDR_WIDTH" ∷ codes "=" ∷ ts) (number_ends n 59 [] refl)

sizes_spell : (plan : Plan) → flat_map tokens_of (size_lines plan) ≡ flat_map parameter_tokens (parameters false plan)
sizes_spell plan = λ k. data_line plan.word_size k ++ (addr_line plan.addr_bits k ++ tokens_of (codes "  parameter RAM_DEPTH = 1 << ADDR_WIDTH;"))

parameters_spell : (plan : Plan) (masked : Bool) → nat_lt 0 plan.masks ≡ masked → flat_map tokens_of (parameter_lines plan) ≡ flat_map parameter_tokens (parameters masked plan)
parameters_spell plan masked e =
    ap (λ (b : Bool). flat_map tokens_of (cond b (parameter_line (codes "NUM_WMASKS") plan.masks ∷ []) [] ++ size_lines plan)) e ∙ by masked where
      by : (b : Bool) → flat_map tokens_of (cond b (parameter_line (codes "NUM_WMASKS") plan.masks ∷ []) [] ++ size_lines plan) ≡ flat_map parameter_tokens (parameters b plan)
      by false = sizes_spell plan
      by true = λ k. masks_line plan.masks k ++ sizes_spell plan k

declarations_spell : (masked : Bool) → flat_map tokens_of (declaration_lines masked) ≡ flat_map declaration_tokens (declarations masked)
declarations_spell true = refl
declarations_spell false = refl

latches_spell : (masked : Bool) → flat_map tokens_of (latch_lines masked) ≡ always_tokens (rising masked)
latches_spell true = refl
latches_spell false = refl

-- bytes that join none
pub bracket_alone : (bytes : List ℕ) → tokens_of (91 ∷ bytes) ≡ (91 ∷ []) ∷ tokens_of bytes
bracket_alone [] = refl
bracket_alone (b ∷ bytes) = refl

colon_alone : (bytes : List ℕ) → tokens_of (58 ∷ bytes) ≡ (58 ∷ []) ∷ tokens_of bytes
colon_alone [] = refl
colon_alone (b ∷ bytes) = refl

-- a part's two lines
guard_spells : (m : ℕ) → tokens_of (guard_line m) ≡ codes "if" ∷ codes "(" ∷ codes "wmask0_reg" ∷ codes "[" ∷ decimal m ∷ codes "]" ∷ codes ")" ∷ []
guard_spells m = ap (λ (ts : List (List ℕ)). codes "if" ∷ codes "(" ∷ codes "wmask0_reg" ∷ ts) (bracket_alone (decimal m ++ codes "])") ∙ ap (λ (ts : List (List ℕ)). codes "[" ∷ ts) (number_ends m 93 (codes ")") refl))

abbrev part : ℕ → ℕ → List ℕ
part high low = codes "[" ++ decimal high ++ codes ":" ++ decimal low ++ codes "]"

part_cut : (high low : ℕ) (rest : List ℕ) → part high low ++ rest ≡ 91 ∷ (decimal high ++ 58 ∷ (decimal low ++ 93 ∷ rest))
part_cut high low rest =
    ap (λ (l : List ℕ). 91 ∷ l)
    (append_assoc (decimal high ++ codes ":" ++ decimal low) (codes "]") rest
    ∙ (append_assoc (decimal high ++ codes ":") (decimal low) (93 ∷ rest) ∙ append_assoc (decimal high) (codes ":") (decimal low ++ 93 ∷ rest)))

abbrev part_words : ℕ → ℕ → List (List ℕ) → List (List ℕ)
part_words high low ts = codes "[" ∷ decimal high ∷ codes ":" ∷ decimal low ∷ ts

part_ends : (high low : ℕ) (rest : List ℕ) → tokens_of (part high low ++ rest) ≡ part_words high low (tokens_of (93 ∷ rest))
part_ends high low rest =
    ap tokens_of (part_cut high low rest)
    ∙ (bracket_alone (decimal high ++ 58 ∷ (decimal low ++ 93 ∷ rest))
    ∙ ap (λ (ts : List (List ℕ)). codes "[" ∷ ts)
    (number_ends high 58 (decimal low ++ 93 ∷ rest) refl
    ∙ ap (λ (ts : List (List ℕ)). decimal high ∷ ts) (colon_alone (decimal low ++ 93 ∷ rest) ∙ ap (λ (ts : List (List ℕ)). codes ":" ∷ ts) (number_ends low 93 rest refl))))

-- the two sides of a part's assignment
sides_cut : (p m e : List ℕ) → p ++ m ++ p ++ e ≡ p ++ (m ++ (p ++ e))
sides_cut p m e = append_assoc (p ++ m) p e ∙ append_assoc p m (p ++ e)

close_words : (ts : List ℕ) → tokens_of (93 ∷ ts) ≡ codes "]" ∷ tokens_of ts
close_words [] = refl
close_words (b ∷ ts) = refl

choice_spells : (high low : ℕ) → tokens_of (choice_line (part high low))
    ≡ codes "mem" ∷ codes "[" ∷ codes "addr0_reg" ∷ codes "]" ∷ part_words high low (codes "]" ∷ codes "<=" ∷ codes "din0_reg" ∷ part_words high low (codes "]" ∷ codes ";" ∷ []))
choice_spells high low =
    ap (λ (l : List ℕ). tokens_of (codes "        mem[addr0_reg]" ++ l)) (sides_cut (part high low) (codes " <= din0_reg") (codes ";"))
    ∙ (ap (λ (ts : List (List ℕ)). codes "mem" ∷ codes "[" ∷ codes "addr0_reg" ∷ ts) (close_words (part high low ++ (codes " <= din0_reg" ++ (part high low ++ codes ";"))))
    ∙ ap (λ (ts : List (List ℕ)). codes "mem" ∷ codes "[" ∷ codes "addr0_reg" ∷ codes "]" ∷ ts)
    (part_ends high low (codes " <= din0_reg" ++ (part high low ++ codes ";"))
    ∙ ap (λ (ts : List (List ℕ)). part_words high low (codes "]" ∷ codes "<=" ∷ codes "din0_reg" ∷ ts)) (part_ends high low (codes ";"))))

parts_spell : (size n k : ℕ) → flat_map tokens_of (flat_map (mask_lines size) (range_with_len k n)) ≡ body_tokens (part_writes size (range_with_len k n))
parts_spell size zero k = refl
parts_spell size (suc n) k =
    λ j. guard_spells k j ++ (choice_spells ((k + 1) * size - 1) (k * size) j ++ parts_spell size n (k + 1) j)

regrouped : (a b c d : List (List ℕ)) → a ++ (b ++ (c ++ d)) ≡ a ++ b ++ c ++ d
regrouped a b c d = sym (append_assoc (a ++ b) c d ∙ append_assoc a b (c ++ d))

falling_spells : (plan : Plan) (masked : Bool) → nat_lt 0 plan.masks ≡ masked → flat_map tokens_of (falling_edge_lines plan) ≡ always_tokens (falling masked plan) ++ tokens_of (codes "endmodule")
falling_spells plan masked e =
    ap (λ (b : Bool). flat_map tokens_of (codes "  always @(negedge clk0) begin" ∷ (cond b (masked_lines plan) whole_lines ++ reading))) e ∙ by masked where
      opened : List (List ℕ)
      opened = tokens_of (codes "  always @(negedge clk0) begin") ++ tokens_of (codes "    if (!csb0_reg && !web0_reg) begin")

      reading : List (List ℕ)
      reading = codes "    if (!csb0_reg && web0_reg)" ∷ codes "      dout0 <= mem[addr0_reg];" ∷ codes "  end" ∷ codes "endmodule" ∷ []

      by : (b : Bool) → flat_map tokens_of (codes "  always @(negedge clk0) begin" ∷ (cond b (masked_lines plan) whole_lines ++ reading)) ≡ always_tokens (falling b plan) ++ tokens_of (codes "endmodule")
      by false = refl
      by true =
          let parts = flat_map (mask_lines plan.write_size) (range_with_len 0 plan.masks) in
          ap (λ (ts : List (List ℕ)). opened ++ ts) (flat_append tokens_of (parts ++ codes "    end" ∷ []) reading
          ∙ (λ k. flat_append tokens_of parts (codes "    end" ∷ []) k ++ flat_map tokens_of reading)
          ∙ (λ k. parts_spell plan.write_size plan.masks 0 k ++ (codes "end" ∷ []) ++ flat_map tokens_of reading))
          ∙ ap (λ (ts : List (List ℕ)). opened ++ ts) (regrouped (body_tokens (part_writes plan.write_size (range_with_len 0 plan.masks)) ++ codes "end" ∷ [])
          (tokens_of (codes "if (!csb0_reg && web0_reg) dout0 <= mem[addr0_reg];")) (codes "end" ∷ []) (codes "endmodule" ∷ []))

pub gathered : (q l f e : List (List ℕ)) → q ++ l ++ (f ++ e) ≡ q ++ [] ++ (l ++ (f ++ [])) ++ e
gathered q l f e =
    append_assoc q l (f ++ e)
    ∙ sym (append_assoc q (l ++ (f ++ [])) e ∙ ap (λ (ts : List (List ℕ)). q ++ ts) (append_assoc l (f ++ []) e ∙ ap (λ (ts : List (List ℕ)). l ++ ts) (append_assoc f [] e)))
    ∙ ap (λ (ts : List (List ℕ)). ts ++ (l ++ (f ++ [])) ++ e) (sym (append-nil q))

pub has_tokens : (plan : Plan) (name : List ℕ) → IsWord name → tokens_of (verilog_text plan name) ≡ module_tokens (memory_module plan name)
has_tokens plan name is = by (nat_lt 0 plan.masks) refl where
  header : (b : Bool) → flat_map tokens_of (header_lines b) ≡ joined one_token (tokens_of (codes ",")) (memory_ports b) ++ tokens_of (codes ");")
  header true = refl
  header false = refl

  by : (b : Bool) → nat_lt 0 plan.masks ≡ b → tokens_of (verilog_text plan name) ≡ module_tokens (memory_module plan name)
  by b e =
      let p = parameter_lines plan in let d = declaration_lines b in let l = latch_lines b in let f = falling_edge_lines plan in
      ap (λ (c : Bool). tokens_of (text_of_lines ((codes "module " ++ name ++ codes "(") ∷ (header_lines c ++ p ++ declaration_lines c ++ latch_lines c ++ f)))) e
      ∙ (text_tokens ((codes "module " ++ name ++ codes "(") ∷ (header_lines b ++ p ++ d ++ l ++ f))
      ∙ (λ k. first_line name is k ++ flat_map tokens_of (header_lines b ++ p ++ d ++ l ++ f))
      ∙ ap (λ (ts : List (List ℕ)). codes "module" ∷ name ∷ codes "(" ∷ ts)
      (flat_append tokens_of (header_lines b ++ p ++ d ++ l) f
      ∙ (λ k. (flat_append tokens_of (header_lines b ++ p ++ d) l k) ++ flat_map tokens_of f)
      ∙ (λ k. (flat_append tokens_of (header_lines b ++ p) d k) ++ flat_map tokens_of l ++ flat_map tokens_of f)
      ∙ (λ k. (flat_append tokens_of (header_lines b) p k) ++ flat_map tokens_of d ++ flat_map tokens_of l ++ flat_map tokens_of f)
      ∙ (λ k. header b k ++ parameters_spell plan b e k ++ declarations_spell b k ++ latches_spell b k ++ falling_spells plan b e k))
      ∙ ap (λ (ts : List (List ℕ)). codes "module" ∷ name ∷ codes "(" ∷ ts)
      (gathered (joined one_token (tokens_of (codes ",")) (memory_ports b) ++ tokens_of (codes ");") ++ flat_map parameter_tokens (parameters b plan) ++ flat_map declaration_tokens (declarations b))
      (always_tokens (rising b)) (always_tokens (falling b plan)) (tokens_of (codes "endmodule")))
      ∙ ap (λ (c : Bool). module_tokens (module_of c plan name)) (sym e))
