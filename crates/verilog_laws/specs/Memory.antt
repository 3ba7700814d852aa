-- The module of a memory.
use Rattle.std.specs.Prelude.{ℕ, ◌+◌, ◌-◌, ◌*◌, List, [], ◌∷◌, ◌++◌, Bool, true, false, nat_lt, if◌then◌else◌, codes}
use Rattle.std.specs.List.{range_with_len}
use Rattle.sram_plan.specs.declared.numbers.Plan.{Plan}
use Rattle.verilog_modules.specs.Tree.{Single, Wide, Number, PowerOf, Parameter, Declaration, Input, Output, Register, Memory, Whole, Element, BitOf, PartOf, ToRegister, ToWord, ToPart, Term, Statement, Assign, If, Block, Statements, Done, Then, Rising, Falling, Always, Module}

abbrev pub only : {X : Type 0} → Bool → X → List X
only masked x = if masked then x ∷ [] else []

abbrev pub parameters : Bool → Plan → List Parameter
parameters masked plan =
    only masked (record { name = codes "NUM_WMASKS"; amount = Number plan.masks })
    ++ record { name = codes "DATA_WIDTH"; amount = Number plan.word_size }
    ∷ record { name = codes "ADDR_WIDTH"; amount = Number plan.addr_bits }
    ∷ record { name = codes "RAM_DEPTH"; amount = PowerOf (codes "ADDR_WIDTH") }
    ∷ []

abbrev pub num_wmasks : List ℕ
num_wmasks = codes "NUM_WMASKS"

abbrev pub data_width : List ℕ
data_width = codes "DATA_WIDTH"

abbrev pub addr_width : List ℕ
addr_width = codes "ADDR_WIDTH"

abbrev pub declarations : Bool → List Declaration
declarations masked =
    Input Single (codes "clk0")
    ∷ Input Single (codes "csb0")
    ∷ Input Single (codes "web0")
    ∷ (only masked (Input (Wide num_wmasks) (codes "wmask0"))
    ++ Input (Wide addr_width) (codes "addr0")
    ∷ Input (Wide data_width) (codes "din0")
    ∷ Output (Wide data_width) (codes "dout0")
    ∷ Register (Wide data_width) (codes "dout0")
    ∷ Register Single (codes "csb0_reg")
    ∷ Register Single (codes "web0_reg")
    ∷ (only masked (Register (Wide num_wmasks) (codes "wmask0_reg"))
    ++ Register (Wide addr_width) (codes "addr0_reg")
    ∷ Register (Wide data_width) (codes "din0_reg")
    ∷ Memory data_width (codes "mem") (codes "RAM_DEPTH")
    ∷ []))

abbrev pub latch : List ℕ → List ℕ → Statement
latch r x = Assign (ToRegister r) (Whole x)

abbrev pub latches : Bool → Statements
latches true = Then (latch (codes "csb0_reg") (codes "csb0")) (Then (latch (codes "web0_reg") (codes "web0")) (Then (latch (codes "wmask0_reg") (codes "wmask0"))
    (Then (latch (codes "addr0_reg") (codes "addr0")) (Then (latch (codes "din0_reg") (codes "din0")) Done))))
latches false = Then (latch (codes "csb0_reg") (codes "csb0")) (Then (latch (codes "web0_reg") (codes "web0"))
    (Then (latch (codes "addr0_reg") (codes "addr0")) (Then (latch (codes "din0_reg") (codes "din0")) Done)))

abbrev pub term : Bool → List ℕ → Term
term negated r = record { negated = negated; of = Whole r }

-- the part of a word that a mask bit lets a write change
abbrev pub part_write : ℕ → ℕ → Statement
part_write size k =
    let high = (k + 1) * size - 1 in let low = k * size in
    If (record { negated = false; of = BitOf (codes "wmask0_reg") k } ∷ []) (Assign (ToPart (codes "mem") (codes "addr0_reg") high low) (PartOf (codes "din0_reg") high low))

abbrev pub part_writes : ℕ → List ℕ → Statements
part_writes size [] = Done
part_writes size (k ∷ ks) = Then (part_write size k) (part_writes size ks)

abbrev pub write_body : Bool → Plan → Statement
write_body masked plan = if masked then Block (part_writes plan.write_size (range_with_len 0 plan.masks)) else Assign (ToWord (codes "mem") (codes "addr0_reg")) (Whole (codes "din0_reg"))

abbrev pub memory_ports : Bool → List (List ℕ)
memory_ports masked = codes "clk0" ∷ codes "csb0" ∷ codes "web0" ∷ (only masked (codes "wmask0") ++ codes "addr0" ∷ codes "din0" ∷ codes "dout0" ∷ [])

-- where the clock rises the command is latched
abbrev pub rising : Bool → Always
rising masked = record { edge = Rising; clock = codes "clk0"; body = Block (latches masked) }

-- where it falls the command is carried out
abbrev pub falling : Bool → Plan → Always
falling masked plan = record {
  edge = Falling;
  clock = codes "clk0";
  body = Block (Then (If (term true (codes "csb0_reg") ∷ term true (codes "web0_reg") ∷ []) (write_body masked plan))
      (Then (If (term true (codes "csb0_reg") ∷ term false (codes "web0_reg") ∷ []) (Assign (ToRegister (codes "dout0")) (Element (codes "mem") (codes "addr0_reg")))) Done));
}

-- with mask bits or without
abbrev pub module_of : Bool → Plan → List ℕ → Module
module_of masked plan name = record { name = name; ports = memory_ports masked; parameters = parameters masked plan; declarations = declarations masked; initial = []; always = rising masked ∷ falling masked plan ∷ [] }

abbrev pub memory_module : Plan → List ℕ → Module
memory_module plan name = module_of (nat_lt 0 plan.masks) plan name
