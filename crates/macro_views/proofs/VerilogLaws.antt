-- The lines of a Verilog text as they are written.
use Rattle.std.proofs.Common.{◌≡◌, ℕ, ◌+◌, ◌-◌, ◌*◌, List, [], ◌∷◌, ◌++◌, refl, sym, ap, ◌∙◌, append_assoc, arith}
use Rattle.std.specs.Prelude.{codes, flat_map, Bool, true, false, if◌then◌else◌}
use Rattle.std.specs.List.{range_with_len}
use Rattle.sram_plan.specs.declared.numbers.Plan.{Plan}
use Rattle.macro_views.specs.declared.verilog.TheConstants.{COMMAND_INPUTS, DATA_PORTS, DATA_REGISTERS, COMMAND_LATCHES, DATA_LATCHES, READING}
use Rattle.macro_views.specs.Verilog.{part_text, guard_line, choice_line, mask_lines, mask_text, masked_lines, header_lines, declaration_lines, latch_lines, write_lines, falling_edge_lines}
use Rattle.macro_views.specs.Lines.{text_of_lines}
use Rattle.macro_views.proofs.TextLaws.{from_left, cut_elsewhere, text_append, text_flat_map}

pub high_is : (size m : ℕ) → m * size + size - 1 ≡ (m + 1) * size - 1
high_is size m = omega arith

chosen : (guard part : List ℕ) → (((((guard ++ codes "\n") ++ codes "        mem[addr0_reg]") ++ part) ++ codes " <= din0_reg") ++ part) ++ codes ";\n" ≡ guard ++ 10 ∷ (choice_line part ++ 10 ∷ [])
chosen guard part =
    let choice = codes "        mem[addr0_reg]" ++ part ++ codes " <= din0_reg" ++ part in
    ap (λ (l : List ℕ). l ++ codes ";\n") (from_left (guard ++ codes "\n") (codes "        mem[addr0_reg]") part (codes " <= din0_reg") part)
    ∙ (append_assoc (guard ++ codes "\n") (codes "        mem[addr0_reg]" ++ (part ++ (codes " <= din0_reg" ++ part))) (codes ";\n")
    ∙ (append_assoc guard (codes "\n") ((codes "        mem[addr0_reg]" ++ (part ++ (codes " <= din0_reg" ++ part))) ++ codes ";\n")
    ∙ ap (λ (l : List ℕ). guard ++ 10 ∷ l)
    (ap (λ (l : List ℕ). l ++ codes ";\n") (sym (append_assoc (codes "        mem[addr0_reg]" ++ part) (codes " <= din0_reg") part ∙ append_assoc (codes "        mem[addr0_reg]") part (codes " <= din0_reg" ++ part)))
    ∙ sym (append_assoc choice (codes ";") (codes "\n")))))

pub mask_is : (size m : ℕ) → let part = part_text (m * size + size - 1) (m * size) in
    (((((guard_line m ++ codes "\n") ++ codes "        mem[addr0_reg]") ++ part) ++ codes " <= din0_reg") ++ part) ++ codes ";\n" ≡ mask_text size m
mask_is size m = chosen (guard_line m) (part_text (m * size + size - 1) (m * size)) ∙ ap (λ (high : ℕ). guard_line m ++ 10 ∷ (choice_line (part_text high (m * size)) ++ 10 ∷ [])) (high_is size m)

-- a part for each mask bit
pub masked_is : (plan : Plan) → (codes "    if (!csb0_reg && !web0_reg) begin\n" ++ flat_map (mask_text plan.write_size) (range_with_len 0 plan.masks)) ++ codes "    end\n" ≡ text_of_lines (masked_lines plan)
masked_is plan =
    let parts = flat_map (mask_lines plan.write_size) (range_with_len 0 plan.masks) in
    ap (λ (l : List ℕ). codes "    if (!csb0_reg && !web0_reg) begin\n" ++ l)
    (ap (λ (l : List ℕ). l ++ codes "    end\n") (sym (text_flat_map (mask_lines plan.write_size) (range_with_len 0 plan.masks))) ∙ sym (text_append parts (codes "    end" ∷ [])))

pub header_is : (masked : Bool) → (codes "    clk0, csb0, web0, " ++ (if masked then codes "wmask0, " else [])) ++ codes "addr0, din0, dout0\n  );\n" ≡ text_of_lines (header_lines masked)
header_is true = refl
header_is false = refl

pub declared_is : (masked : Bool) → (((COMMAND_INPUTS.now ++ (if masked then codes "  input [NUM_WMASKS-1:0] wmask0;\n" else [])) ++ DATA_PORTS.now) ++ (if masked then codes "  reg [NUM_WMASKS-1:0] wmask0_reg;\n" else [])) ++ DATA_REGISTERS.now ≡ text_of_lines (declaration_lines masked)
declared_is true = refl
declared_is false = refl

pub latched_is : (masked : Bool) → (COMMAND_LATCHES.now ++ (if masked then codes "    wmask0_reg <= wmask0;\n" else [])) ++ DATA_LATCHES.now ≡ text_of_lines (latch_lines masked)
latched_is true = refl
latched_is false = refl

pub falling_edge_is : (plan : Plan) → (codes "  always @(negedge clk0) begin\n" ++ text_of_lines (write_lines plan)) ++ READING.now ≡ text_of_lines (falling_edge_lines plan)
falling_edge_is plan = ap (λ (l : List ℕ). codes "  always @(negedge clk0) begin\n" ++ l) (sym (text_append (write_lines plan) (codes "    if (!csb0_reg && web0_reg)" ∷ codes "      dout0 <= mem[addr0_reg];" ∷ codes "  end" ∷ codes "endmodule" ∷ [])))

-- the module's line, and four lists of lines after it
pub module_is : (name : List ℕ) (a b c d e : List (List ℕ)) → (((((codes "module " ++ name ++ codes "(\n") ++ text_of_lines a) ++ text_of_lines b) ++ text_of_lines c) ++ text_of_lines d) ++ text_of_lines e
    ≡ text_of_lines ((codes "module " ++ name ++ codes "(") ∷ (a ++ b ++ c ++ d ++ e))
module_is name a b c d e =
    let line = codes "module " ++ name ++ codes "(" in
    let one : (codes "module " ++ name ++ codes "(\n") ++ text_of_lines a ≡ text_of_lines (line ∷ a) = cut_elsewhere (codes "module ") name (codes "(\n") (text_of_lines a) (codes "(") (10 ∷ text_of_lines a) refl in
    let two : ((codes "module " ++ name ++ codes "(\n") ++ text_of_lines a) ++ text_of_lines b ≡ text_of_lines (line ∷ (a ++ b)) = ap (λ (l : List ℕ). l ++ text_of_lines b) one ∙ sym (text_append (line ∷ a) b) in
    let three : (((codes "module " ++ name ++ codes "(\n") ++ text_of_lines a) ++ text_of_lines b) ++ text_of_lines c ≡ text_of_lines (line ∷ (a ++ b ++ c)) = ap (λ (l : List ℕ). l ++ text_of_lines c) two ∙ sym (text_append (line ∷ (a ++ b)) c) in
    let four : ((((codes "module " ++ name ++ codes "(\n") ++ text_of_lines a) ++ text_of_lines b) ++ text_of_lines c) ++ text_of_lines d ≡ text_of_lines (line ∷ (a ++ b ++ c ++ d)) =
    ap (λ (l : List ℕ). l ++ text_of_lines d) three ∙ sym (text_append (line ∷ (a ++ b ++ c)) d)
    in
    ap (λ (l : List ℕ). l ++ text_of_lines e) four ∙ sym (text_append (line ∷ (a ++ b ++ c ++ d)) e)

pub module_named : {a b : List ℕ} (name name' : List ℕ) → b ≡ a ++ (codes "module " ++ name' ++ codes "(\n") → a ≡ [] → name' ≡ name → b ≡ codes "module " ++ name ++ codes "(\n"
module_named name name' e p q = e ∙ (ap (λ (l : List ℕ). l ++ (codes "module " ++ name' ++ codes "(\n")) p ∙ ap (λ (l : List ℕ). codes "module " ++ l ++ codes "(\n") q)
