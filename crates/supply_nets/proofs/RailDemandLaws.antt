-- The rails that the cells of each role draw.
use Rattle.std.proofs.Common.{◌≡◌, ℕ, ◌+◌, List, [], ◌∷◌, length, refl}
use Rattle.cell_roles.specs.declared.role.Role.{Role}
use Rattle.cell_roles.specs.declared.role.Role.TheVariants.{Bitcell, Precharge, Mux, Tie, Sense, Write, RowNand2, RowNand3, Driver, Nand2, Nand3, Inv, Dff, Delay}
use Rattle.cell_roles.specs.Roles.{role_ports}
use Rattle.leaf_shapes.specs.declared.demand.Metal.TheVariants.{M1}
use Rattle.leaf_shapes.specs.declared.fit.Fit.TheVariants.{LowerRail, UpperRail}
use Rattle.sram_netlist.specs.Organization.{Organization}
use Rattle.sram_netlist.specs.Instances.{LogicCell}
use Rattle.sram_netlist.specs.Netlist.{row_gate, logic_role}
use Rattle.kit_nets.specs.StatedParts.{Source}
use Rattle.kit_nets.specs.RolePins.{IsDemand, IsDrawnPin, AreRolePins}
use Rattle.kit_nets.proofs.MainHubLaws.{IsLogicRole, is_logic_role}
use Rattle.supply_nets.specs.Rails.{power_port, ground_port, IsGroundAbove, IsPowerAbove}

-- Supplies are a role's last two ports.
pub supplies_last : (role : Role) → power_port role + 2 ≡ length (role_ports role)
supplies_last Bitcell = refl
supplies_last Precharge = refl
supplies_last Mux = refl
supplies_last Tie = refl
supplies_last Sense = refl
supplies_last Write = refl
supplies_last RowNand2 = refl
supplies_last RowNand3 = refl
supplies_last Driver = refl
supplies_last Nand2 = refl
supplies_last Nand3 = refl
supplies_last Inv = refl
supplies_last Dff = refl
supplies_last Delay = refl

-- where vdd is above

power_above : (role : Role) → IsPowerAbove role → IsDemand role (power_port role) M1 UpperRail
power_above Bitcell is = record { place = 3; name = _; there = refl; named = refl }
power_above Precharge is = record { place = 3; name = _; there = refl; named = refl }
power_above Sense is = record { place = 4; name = _; there = refl; named = refl }
power_above RowNand2 is = record { place = 3; name = _; there = refl; named = refl }
power_above RowNand3 is = record { place = 4; name = _; there = refl; named = refl }
power_above Driver is = record { place = 3; name = _; there = refl; named = refl }
power_above Nand2 is = record { place = 3; name = _; there = refl; named = refl }
power_above Nand3 is = record { place = 4; name = _; there = refl; named = refl }
power_above Inv is = record { place = 2; name = _; there = refl; named = refl }
power_above Dff is = record { place = 3; name = _; there = refl; named = refl }
power_above Delay is = record { place = 2; name = _; there = refl; named = refl }
power_above Mux is = absurd is
power_above Tie is = absurd is
power_above Write is = absurd is

ground_below : (role : Role) → IsPowerAbove role → IsDemand role (ground_port role) M1 LowerRail
ground_below Bitcell is = record { place = 4; name = _; there = refl; named = refl }
ground_below Precharge is = record { place = 4; name = _; there = refl; named = refl }
ground_below Sense is = record { place = 5; name = _; there = refl; named = refl }
ground_below RowNand2 is = record { place = 4; name = _; there = refl; named = refl }
ground_below RowNand3 is = record { place = 5; name = _; there = refl; named = refl }
ground_below Driver is = record { place = 4; name = _; there = refl; named = refl }
ground_below Nand2 is = record { place = 4; name = _; there = refl; named = refl }
ground_below Nand3 is = record { place = 5; name = _; there = refl; named = refl }
ground_below Inv is = record { place = 3; name = _; there = refl; named = refl }
ground_below Dff is = record { place = 4; name = _; there = refl; named = refl }
ground_below Delay is = record { place = 3; name = _; there = refl; named = refl }
ground_below Mux is = absurd is
ground_below Tie is = absurd is
ground_below Write is = absurd is

-- and where gnd is

ground_above : (role : Role) → IsGroundAbove role → IsDemand role (ground_port role) M1 UpperRail
ground_above Mux is = record { place = 6; name = _; there = refl; named = refl }
ground_above Tie is = record { place = 5; name = _; there = refl; named = refl }
ground_above Write is = record { place = 5; name = _; there = refl; named = refl }
ground_above Bitcell is = absurd is
ground_above Precharge is = absurd is
ground_above Sense is = absurd is
ground_above RowNand2 is = absurd is
ground_above RowNand3 is = absurd is
ground_above Driver is = absurd is
ground_above Nand2 is = absurd is
ground_above Nand3 is = absurd is
ground_above Inv is = absurd is
ground_above Dff is = absurd is
ground_above Delay is = absurd is

power_below : (role : Role) → IsGroundAbove role → IsDemand role (power_port role) M1 LowerRail
power_below Mux is = record { place = 5; name = _; there = refl; named = refl }
power_below Tie is = record { place = 4; name = _; there = refl; named = refl }
power_below Write is = record { place = 4; name = _; there = refl; named = refl }
power_below Bitcell is = absurd is
power_below Precharge is = absurd is
power_below Sense is = absurd is
power_below RowNand2 is = absurd is
power_below RowNand3 is = absurd is
power_below Driver is = absurd is
power_below Nand2 is = absurd is
power_below Nand3 is = absurd is
power_below Inv is = absurd is
power_below Dff is = absurd is
power_below Delay is = absurd is

-- roles of the logic row, gates of rows, and columns' ends

logic_above : (role : Role) → IsLogicRole role → IsPowerAbove role
logic_above Nand2 is = tt
logic_above Nand3 is = tt
logic_above Inv is = tt
logic_above Dff is = tt
logic_above Delay is = tt
logic_above Bitcell is = tt
logic_above Precharge is = tt
logic_above Sense is = tt
logic_above RowNand2 is = tt
logic_above RowNand3 is = tt
logic_above Driver is = tt
logic_above Mux is = absurd is
logic_above Tie is = absurd is
logic_above Write is = absurd is

pub cell_above : (plan : Organization) (cell : LogicCell) → IsPowerAbove (logic_role plan cell)
cell_above plan cell = logic_above (logic_role plan cell) (is_logic_role plan cell)

pub gate_above : (groups : List ℕ) → IsPowerAbove (row_gate groups)
gate_above [] = tt
gate_above (a ∷ []) = tt
gate_above (a ∷ b ∷ []) = tt
gate_above (a ∷ b ∷ c ∷ bs) = tt

module _ (s : Source) (pins : AreRolePins s) where
  -- Its cell draws vdd's rail above gnd's,
  pub upper_power : (role : Role) → IsPowerAbove role → IsDrawnPin s role (power_port role) M1 UpperRail
  upper_power role is = pins.drawn role (power_port role) M1 UpperRail (power_above role is)

  pub lower_ground : (role : Role) → IsPowerAbove role → IsDrawnPin s role (ground_port role) M1 LowerRail
  lower_ground role is = pins.drawn role (ground_port role) M1 LowerRail (ground_below role is)

  -- or gnd's above vdd's.
  pub upper_ground : (role : Role) → IsGroundAbove role → IsDrawnPin s role (ground_port role) M1 UpperRail
  upper_ground role is = pins.drawn role (ground_port role) M1 UpperRail (ground_above role is)

  pub lower_power : (role : Role) → IsGroundAbove role → IsDrawnPin s role (power_port role) M1 LowerRail
  lower_power role is = pins.drawn role (power_port role) M1 LowerRail (power_below role is)
