-- What the lines over address bits choose.
use Rattle.std.specs.Prelude.{ℕ, List, Bool, true, false, codes}
use Rattle.sram_netlist.specs.Names.{LineKind, Column, Group, Bank}
use Rattle.row_decoder.specs.declared.lines.LineChoice.{LineChoice}
use Rattle.row_decoder.specs.declared.lines.LineChoice.TheVariants as choice

-- as the netlist has it
abbrev pub chosen_by : LineChoice → LineKind
chosen_by choice.Column = Column
chosen_by (choice.Group group) = Group group
chosen_by choice.Bank = Bank

-- the letter of a latched address bit, and of its complement
abbrev pub pick_letter : Bool → List ℕ
pick_letter true = codes "a"
pick_letter false = codes "n"
