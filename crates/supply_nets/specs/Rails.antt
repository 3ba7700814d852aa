-- Which ports of a role are supplies, and which of its rails is which supply's.
use Rattle.std.specs.Prelude.{ℕ, suc}
use Rattle.cell_roles.specs.declared.role.Role.{Role}
use Rattle.cell_roles.specs.declared.role.Role.TheVariants.{Bitcell, Precharge, Mux, Tie, Sense, Write, RowNand2, RowNand3, Driver, Nand2, Nand3, Inv, Dff, Delay}

-- Ports are counted from 0. Supplies are the last two: vdd, and then gnd.
abbrev pub power_port : Role → ℕ
power_port Bitcell = 3
power_port Precharge = 3
power_port Mux = 5
power_port Tie = 2
power_port Sense = 4
power_port Write = 4
power_port RowNand2 = 3
power_port RowNand3 = 4
power_port Driver = 3
power_port Nand2 = 3
power_port Nand3 = 4
power_port Inv = 2
power_port Dff = 3
power_port Delay = 2

abbrev pub ground_port : Role → ℕ
ground_port role = suc (power_port role)

-- the upper rail is gnd's
abbrev pub IsGroundAbove : Role → Type 0
IsGroundAbove Mux = Unit {0}
IsGroundAbove Tie = Unit {0}
IsGroundAbove Write = Unit {0}
IsGroundAbove role = ⊥

-- the upper rail is vdd's
abbrev pub IsPowerAbove : Role → Type 0
IsPowerAbove Mux = ⊥
IsPowerAbove Tie = ⊥
IsPowerAbove Write = ⊥
IsPowerAbove role = Unit {0}
