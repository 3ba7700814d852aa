-- The shapes of a kit's pins: each is bound and lies as demanded, and pins face each other.
use Rattle.std.specs.Prelude.{◌≡◌, ◌⊎◌, ℕ, ◌<◌, suc, pos, List, length, Some, slice_get}
use Rattle.cell_roles.specs.declared.role.Role.{Role}
use Rattle.cell_roles.specs.declared.role.Role.TheVariants.{Bitcell, Precharge, Sense, Write, Driver}
use Rattle.cell_roles.specs.Roles.{role_ports}
use Rattle.leaf_shapes.specs.declared.demand.Metal.{Metal}
use Rattle.leaf_shapes.specs.declared.demand.Metal.TheVariants.{M1, M2, M3, M4}
use Rattle.leaf_shapes.specs.declared.fit.Fit.{Fit}
use Rattle.leaf_shapes.specs.Demands.{draw, metal_layer, role_demands}
use Rattle.leaf_shapes.specs.Fits.{FitsCell}
use Rattle.sram_netlist.specs.Netlist.{row_gate}
use Rattle.macro_layout.specs.LayoutKit.{LayoutKit}
use Rattle.macro_layout.specs.Floorplan.{column_role}
use Rattle.kit_nets.specs.Bound.{BindsForPort}
use Rattle.kit_nets.specs.StatedParts.{Source}

-- metals counted from 0
abbrev pub metal_place : Metal → ℕ
metal_place M1 = 0
metal_place M2 = 1
metal_place M3 = 2
metal_place M4 = 3

-- the role's port has to be drawn so on the metal
pub record IsDemand (role : Role) (port : ℕ) (on : Metal) (fit : Fit) : Type 0 where
  pub place : ℕ
  pub name : List ℕ
  pub there : slice_get (role_demands role) place ≡ Some (draw name on fit)
  pub named : slice_get (role_ports role) port ≡ Some name

-- its shape in the layout is one that the port's labels bind, and lies so
pub record IsDrawnPin (s : Source) (role : Role) (port : ℕ) (on : Metal) (fit : Fit) : Type 0 where
  pub bound : BindsForPort (s.lists role) (role_ports role) port (record { layer = metal_layer s.wire on; rect = s.kit.pin role port (metal_place on) })
  pub fits : FitsCell fit s.wire.width (record { width = pos (s.kit.width role); height = pos (s.kit.height role) }) (s.kit.pin role port (metal_place on))

-- the first shapes of pins that face each other begin equally far right, or equally high up
pub record ArePinsFacing (kit : LayoutKit) : Type 0 where
  pub column : (n port : ℕ) → port < 2 → (kit.pin (column_role n) port 1).x1 ≡ (kit.pin Bitcell port 1).x1
  pub precharge : (port : ℕ) → port < 2 → (kit.pin Precharge port 1).x1 ≡ (kit.pin Bitcell port 1).x1
  pub write : (port : ℕ) → port < 2 → (kit.pin Write (suc port) 1).x1 ≡ (kit.pin Sense port 1).x1
  pub gate : (groups : List ℕ) → (length groups ≡ 2) ⊎ (length groups ≡ 3) → (kit.pin (row_gate groups) (length groups) 0).y1 ≡ (kit.pin Driver 0 0).y1
  pub driver : (kit.pin Driver 2 0).y1 ≡ (kit.pin Bitcell 2 0).y1

pub record AreRolePins (s : Source) : Type 0 where
  pub drawn : (role : Role) (port : ℕ) (on : Metal) (fit : Fit) → IsDemand role port on fit → IsDrawnPin s role port on fit
  pub facing : ArePinsFacing s.kit
