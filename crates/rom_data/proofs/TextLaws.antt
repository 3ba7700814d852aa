-- Texts of lines as they are written.
use Rattle.std.proofs.Common.{◌≡◌, ℕ, ◌+◌, List, [], ◌∷◌, ◌++◌, map, refl, sym, ap, ◌∙◌, append_assoc, arith}
use Rattle.std.specs.Prelude.{codes, slice_index}
use Rattle.std.specs.List.{range_with_len}
use Rattle.std.proofs.lemmas.List.FromFn.{map-range_with_len_more}
use Rattle.sram_plan.specs.declared.numbers.Plan.{Plan}
use Rattle.macro_views.specs.Lines.{text_of_lines}
use Rattle.rom_data.specs.RomVerilog.{content_line, content_lines, initial_lines}

-- one text more
pub text_more : {a b : List ℕ} (x done text : List ℕ) → a ≡ x ++ done → b ≡ a ++ text → b ≡ x ++ (done ++ text)
text_more x done text p q = q ∙ (ap (λ (l : List ℕ). l ++ text) p ∙ append_assoc x done text)

-- the lines of two lists, one after the other
pub text_append : (xs ys : List (List ℕ)) → text_of_lines (xs ++ ys) ≡ text_of_lines xs ++ text_of_lines ys
text_append [] ys = refl
text_append (x ∷ xs) ys = ap (λ (l : List ℕ). x ++ 10 ∷ l) (text_append xs ys) ∙ sym (append_assoc x (10 ∷ text_of_lines xs) (text_of_lines ys))

-- some lines more
pub lines_more : {a b : List ℕ} (xs ys : List (List ℕ)) → a ≡ text_of_lines xs → b ≡ a ++ text_of_lines ys → b ≡ text_of_lines (xs ++ ys)
lines_more xs ys p q = q ∙ (ap (λ (l : List ℕ). l ++ text_of_lines ys) p ∙ sym (text_append xs ys))

-- the line of the module's name, and some lines
pub module_is : {a b c d e : List ℕ} (name : List ℕ) (lines : List (List ℕ)) → a ≡ [] → b ≡ a ++ codes "module " → c ≡ b ++ name → d ≡ c ++ codes "(\n" → e ≡ d ++ text_of_lines lines → e ≡ text_of_lines ((codes "module " ++ name ++ codes "(") ∷ lines)
module_is name lines none word named bracket more =
    let front = codes "module " ++ name in
    more
    ∙ (ap (λ (l : List ℕ). l ++ text_of_lines lines) (bracket ∙ ap (λ (l : List ℕ). l ++ codes "(\n") (named ∙ ap (λ (l : List ℕ). l ++ name) (word ∙ ap (λ (l : List ℕ). l ++ codes "module ") none)))
    ∙ (append_assoc front (codes "(\n") (text_of_lines lines) ∙ sym (append_assoc front (codes "(") (10 ∷ text_of_lines lines))))

-- the lines of the first addresses
abbrev pub first_lines : Plan → List ℕ → ℕ → List (List ℕ)
first_lines plan words count = map (λ address. content_line plan.word_size address (slice_index words address)) (range_with_len 0 count)

-- the line of one address more
pub address_more : (plan : Plan) (words : List ℕ) (k : ℕ) → text_of_lines (first_lines plan words k) ++ (content_line plan.word_size k (slice_index words k) ++ codes "\n") ≡ text_of_lines (first_lines plan words (k + 1))
address_more plan words k =
    let f : ℕ → List ℕ = λ address. content_line plan.word_size address (slice_index words address) in
    sym (ap text_of_lines (map-range_with_len_more f 0 k k (omega arith)) ∙ text_append (first_lines plan words k) (f k ∷ []))

-- the lines of all addresses, between two
pub initial_is : (plan : Plan) (words : List ℕ) → (codes "  initial begin\n" ++ text_of_lines (content_lines plan words)) ++ codes "  end\n" ≡ text_of_lines (initial_lines plan words)
initial_is plan words = ap (λ (l : List ℕ). codes "  initial begin\n" ++ l) (sym (text_append (content_lines plan words) (codes "  end" ∷ [])))
