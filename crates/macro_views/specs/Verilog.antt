-- The Verilog text of a macro: a memory that takes a command where its clock rises and carries it out where the clock falls.
use Rattle.std.specs.Prelude.{ℕ, ◌+◌, ◌-◌, ◌*◌, List, [], ◌∷◌, ◌++◌, Bool, nat_lt, if◌then◌else◌, codes, flat_map}
use Rattle.std.specs.Fmt.{decimal}
use Rattle.std.specs.List.{range_with_len}
use Rattle.sram_plan.specs.declared.numbers.Plan.{Plan}
use Rattle.macro_views.specs.Lines.{text_of_lines}

-- a line that stands only where there are mask bits
abbrev pub only_masked : Bool → List ℕ → List (List ℕ)
only_masked masked line = if masked then line ∷ [] else []

abbrev pub header_lines : Bool → List (List ℕ)
header_lines masked =
    (codes "    clk0, csb0, web0, " ++ (if masked then codes "wmask0, " else []) ++ codes "addr0, din0, dout0")
    ∷ codes "  );"
    ∷ []

abbrev pub parameter_line : List ℕ → ℕ → List ℕ
parameter_line name value = codes "  parameter " ++ name ++ codes " = " ++ decimal value ++ codes ";"

abbrev pub size_lines : Plan → List (List ℕ)
size_lines plan =
    parameter_line (codes "DATA_WIDTH") plan.word_size
    ∷ parameter_line (codes "ADDR_WIDTH") plan.addr_bits
    ∷ codes "  parameter RAM_DEPTH = 1 << ADDR_WIDTH;"
    ∷ []

abbrev pub mask_count_lines : ℕ → List (List ℕ)
mask_count_lines masks = only_masked (nat_lt 0 masks) (parameter_line (codes "NUM_WMASKS") masks)

abbrev pub parameter_lines : Plan → List (List ℕ)
parameter_lines plan = mask_count_lines plan.masks ++ size_lines plan

-- the ports, the memory, and registers for what stands at the ports where the clock rises
abbrev pub declaration_lines : Bool → List (List ℕ)
declaration_lines masked =
    codes "  input clk0;"
    ∷ codes "  input csb0;"
    ∷ codes "  input web0;"
    ∷ (only_masked masked (codes "  input [NUM_WMASKS-1:0] wmask0;")
    ++ codes "  input [ADDR_WIDTH-1:0] addr0;"
    ∷ codes "  input [DATA_WIDTH-1:0] din0;"
    ∷ codes "  output [DATA_WIDTH-1:0] dout0;"
    ∷ codes "  reg [DATA_WIDTH-1:0] dout0;"
    ∷ codes "  reg csb0_reg;"
    ∷ codes "  reg web0_reg;"
    ∷ (only_masked masked (codes "  reg [NUM_WMASKS-1:0] wmask0_reg;")
    ++ codes "  reg [ADDR_WIDTH-1:0] addr0_reg;"
    ∷ codes "  reg [DATA_WIDTH-1:0] din0_reg;"
    ∷ codes "  reg [DATA_WIDTH-1:0] mem [0:RAM_DEPTH-1];"
    ∷ []))

abbrev pub latch_lines : Bool → List (List ℕ)
latch_lines masked =
    codes "  always @(posedge clk0) begin"
    ∷ codes "    csb0_reg <= csb0;"
    ∷ codes "    web0_reg <= web0;"
    ∷ (only_masked masked (codes "    wmask0_reg <= wmask0;")
    ++ codes "    addr0_reg <= addr0;"
    ∷ codes "    din0_reg <= din0;"
    ∷ codes "  end"
    ∷ [])

-- a part of a word, from its high bit to its low one
abbrev pub part_text : ℕ → ℕ → List ℕ
part_text high low = codes "[" ++ decimal high ++ codes ":" ++ decimal low ++ codes "]"

-- the part of a word that a mask bit lets a write change
abbrev pub mask_part : ℕ → ℕ → List ℕ
mask_part write_size m = part_text ((m + 1) * write_size - 1) (m * write_size)

abbrev pub guard_line : ℕ → List ℕ
guard_line m = codes "      if (wmask0_reg[" ++ decimal m ++ codes "])"

abbrev pub choice_line : List ℕ → List ℕ
choice_line part = codes "        mem[addr0_reg]" ++ part ++ codes " <= din0_reg" ++ part ++ codes ";"

abbrev pub mask_lines : ℕ → ℕ → List (List ℕ)
mask_lines write_size m = guard_line m ∷ choice_line (mask_part write_size m) ∷ []

abbrev pub mask_text : ℕ → ℕ → List ℕ
mask_text write_size m = text_of_lines (mask_lines write_size m)

-- the words are written whole
abbrev pub whole_lines : List (List ℕ)
whole_lines =
    codes "    if (!csb0_reg && !web0_reg)"
    ∷ codes "      mem[addr0_reg] <= din0_reg;"
    ∷ []

-- each mask bit chooses whether its part of the word is written
abbrev pub masked_lines : Plan → List (List ℕ)
masked_lines plan =
    codes "    if (!csb0_reg && !web0_reg) begin"
    ∷ (flat_map (mask_lines plan.write_size) (range_with_len 0 plan.masks)
    ++ codes "    end"
    ∷ [])

abbrev pub write_lines : Plan → List (List ℕ)
write_lines plan = if nat_lt 0 plan.masks then masked_lines plan else whole_lines

abbrev pub falling_edge_lines : Plan → List (List ℕ)
falling_edge_lines plan =
    codes "  always @(negedge clk0) begin"
    ∷ (write_lines plan
    ++ codes "    if (!csb0_reg && web0_reg)"
    ∷ codes "      dout0 <= mem[addr0_reg];"
    ∷ codes "  end"
    ∷ codes "endmodule"
    ∷ [])

abbrev pub verilog_text : Plan → List ℕ → List ℕ
verilog_text plan name =
    let masked = nat_lt 0 plan.masks in
    text_of_lines (
    (codes "module " ++ name ++ codes "(")
    ∷ (header_lines masked ++ parameter_lines plan ++ declaration_lines masked ++ latch_lines masked ++ falling_edge_lines plan)
    )
