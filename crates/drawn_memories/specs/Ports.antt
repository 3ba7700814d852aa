-- The ports at which wires meet channels: below cells on the fourth metal, above cells on the second.
use Rattle.std.specs.Prelude.{ℕ, [], ◌∷◌}
use Rattle.cell_roles.specs.declared.role.Role.{Role}
use Rattle.cell_roles.specs.declared.role.Role.TheVariants.{Sense, Write, Mux, Tie, Nand2, Nand3, Inv, Dff, Delay}
use Rattle.macro_layout.specs.LayoutKit.{LayoutKit}
use Rattle.good_wires.specs.Kept.{Ports}

-- branches into the channel above: of a sense cell's lines, and of each port of a logic cell but supplies
abbrev pub ports_below : Ports
ports_below =
    (Sense, 0) ∷ (Sense, 1)
    ∷ (Nand2, 0) ∷ (Nand2, 1) ∷ (Nand2, 2)
    ∷ (Nand3, 0) ∷ (Nand3, 1) ∷ (Nand3, 2) ∷ (Nand3, 3)
    ∷ (Inv, 0) ∷ (Inv, 1)
    ∷ (Dff, 0) ∷ (Dff, 1) ∷ (Dff, 2)
    ∷ (Delay, 0) ∷ (Delay, 1)
    ∷ []

-- branches into the channel below: of a write cell's input and enable, a sense cell's output, and what a column ends in
abbrev pub ports_above : Ports
ports_above = (Write, 0) ∷ (Write, 3) ∷ (Sense, 2) ∷ (Mux, 2) ∷ (Mux, 3) ∷ (Mux, 4) ∷ (Tie, 0) ∷ (Tie, 1) ∷ []

-- wires over a write cell up to a sense cell's output
abbrev pub ports_over : Ports
ports_over = (Sense, 2) ∷ []

-- how far below a pin its branch begins: a sense cell's below the write cell
abbrev pub drop_of : LayoutKit → Role → ℕ
drop_of kit Sense = kit.height Write
drop_of kit role = 0
