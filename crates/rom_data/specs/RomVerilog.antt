-- The Verilog text of a read-only macro: a memory that takes a command where its clock rises and answers where the clock falls.
use Rattle.std.specs.Prelude.{ℕ, List, [], ◌∷◌, ◌++◌, codes, map, slice_index}
use Rattle.std.specs.Fmt.{decimal}
use Rattle.std.specs.List.{range_with_len}
use Rattle.sram_plan.specs.declared.numbers.Plan.{Plan}
use Rattle.macro_views.specs.Lines.{text_of_lines}
use Rattle.macro_views.specs.Verilog.{parameter_line}
use Rattle.rom_data.specs.Hex.{hex_digit_count, hex_digits}

abbrev pub rom_header_lines : List (List ℕ)
rom_header_lines =
    codes "    clk0, csb0, addr0, dout0"
    ∷ codes "  );"
    ∷ []

abbrev pub rom_size_lines : Plan → List (List ℕ)
rom_size_lines plan =
    parameter_line (codes "DATA_WIDTH") plan.word_size
    ∷ parameter_line (codes "ADDR_WIDTH") plan.addr_bits
    ∷ codes "  parameter ROM_DEPTH = 1 << ADDR_WIDTH;"
    ∷ []

-- the ports, registers for what stands at them where the clock rises, and the memory
abbrev pub rom_declaration_lines : List (List ℕ)
rom_declaration_lines =
    codes "  input clk0;"
    ∷ codes "  input csb0;"
    ∷ codes "  input [ADDR_WIDTH-1:0] addr0;"
    ∷ codes "  output [DATA_WIDTH-1:0] dout0;"
    ∷ codes "  reg [DATA_WIDTH-1:0] dout0;"
    ∷ codes "  reg csb0_reg;"
    ∷ codes "  reg [ADDR_WIDTH-1:0] addr0_reg;"
    ∷ codes "  reg [DATA_WIDTH-1:0] mem [0:ROM_DEPTH-1];"
    ∷ []

-- the word at an address, of so many bits
abbrev pub content_line : ℕ → ℕ → ℕ → List ℕ
content_line word_size address word = codes "    mem[" ++ decimal address ++ codes "] = " ++ decimal word_size ++ codes "'h" ++ hex_digits (hex_digit_count word_size) word ++ codes ";"

-- a line for each address
abbrev pub content_lines : Plan → List ℕ → List (List ℕ)
content_lines plan words = map (λ address. content_line plan.word_size address (slice_index words address)) (range_with_len 0 plan.num_words)

abbrev pub initial_lines : Plan → List ℕ → List (List ℕ)
initial_lines plan words =
    codes "  initial begin"
    ∷ (content_lines plan words
    ++ codes "  end"
    ∷ [])

abbrev pub rom_clock_lines : List (List ℕ)
rom_clock_lines =
    codes "  always @(posedge clk0) begin"
    ∷ codes "    csb0_reg <= csb0;"
    ∷ codes "    addr0_reg <= addr0;"
    ∷ codes "  end"
    ∷ codes "  always @(negedge clk0) begin"
    ∷ codes "    if (!csb0_reg)"
    ∷ codes "      dout0 <= mem[addr0_reg];"
    ∷ codes "  end"
    ∷ codes "endmodule"
    ∷ []

abbrev pub rom_text : Plan → List ℕ → List ℕ → List ℕ
rom_text plan name words =
    text_of_lines (
    (codes "module " ++ name ++ codes "(")
    ∷ (rom_header_lines ++ rom_size_lines plan ++ rom_declaration_lines ++ initial_lines plan words ++ rom_clock_lines)
    )
