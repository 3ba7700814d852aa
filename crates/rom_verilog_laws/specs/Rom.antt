-- The module of a read-only memory.
use Rattle.std.specs.Prelude.{ℕ, List, [], ◌∷◌, true, codes, map, slice_index}
use Rattle.std.specs.List.{range_with_len}
use Rattle.sram_plan.specs.declared.numbers.Plan.{Plan}
use Rattle.rom_data.specs.Hex.{hex_digit_count, hex_digits}
use Rattle.verilog_modules.specs.Tree.{Single, Wide, Number, PowerOf, Parameter, Declaration, Input, Output, Register, Memory, Setting, Element, ToRegister, Assign, If, Block, Done, Then, Rising, Falling, Always, Module}
use Rattle.verilog_laws.specs.Memory.{addr_width, data_width, latch, term}

-- the word at an address
abbrev pub setting : Plan → List ℕ → ℕ → Setting
setting plan words address = record {
  memory = codes "mem";
  address = address;
  size = plan.word_size;
  digits = hex_digits (hex_digit_count plan.word_size) (slice_index words address);
}

abbrev pub settings : Plan → List ℕ → List Setting
settings plan words = map (setting plan words) (range_with_len 0 plan.num_words)

abbrev pub rom_ports : List (List ℕ)
rom_ports = codes "clk0" ∷ codes "csb0" ∷ codes "addr0" ∷ codes "dout0" ∷ []

abbrev pub rom_parameters : Plan → List Parameter
rom_parameters plan =
    record { name = codes "DATA_WIDTH"; amount = Number plan.word_size }
    ∷ record { name = codes "ADDR_WIDTH"; amount = Number plan.addr_bits }
    ∷ record { name = codes "ROM_DEPTH"; amount = PowerOf (codes "ADDR_WIDTH") }
    ∷ []

abbrev pub rom_declarations : List Declaration
rom_declarations =
    Input Single (codes "clk0")
    ∷ Input Single (codes "csb0")
    ∷ Input (Wide addr_width) (codes "addr0")
    ∷ Output (Wide data_width) (codes "dout0")
    ∷ Register (Wide data_width) (codes "dout0")
    ∷ Register Single (codes "csb0_reg")
    ∷ Register (Wide addr_width) (codes "addr0_reg")
    ∷ Memory data_width (codes "mem") (codes "ROM_DEPTH")
    ∷ []

-- where the clock rises the command is latched
abbrev pub rom_rising : Always
rom_rising = record { edge = Rising; clock = codes "clk0"; body = Block (Then (latch (codes "csb0_reg") (codes "csb0")) (Then (latch (codes "addr0_reg") (codes "addr0")) Done)) }

-- where it falls the word is read
abbrev pub rom_falling : Always
rom_falling = record {
  edge = Falling;
  clock = codes "clk0";
  body = Block (Then (If (term true (codes "csb0_reg") ∷ []) (Assign (ToRegister (codes "dout0")) (Element (codes "mem") (codes "addr0_reg")))) Done);
}

abbrev pub rom_module : Plan → List ℕ → List ℕ → Module
rom_module plan name words = record {
  name = name;
  ports = rom_ports;
  parameters = rom_parameters plan;
  declarations = rom_declarations;
  initial = settings plan words ∷ [];
  always = rom_rising ∷ rom_falling ∷ [];
}
