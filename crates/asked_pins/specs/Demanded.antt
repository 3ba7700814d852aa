-- Which pins are demanded of a role's leaf cell, and that a kit has them.
use Rattle.std.specs.Prelude.{◌≡◌, ℕ, Some, slice_get}
use Rattle.or_geom.specs.declared.shape.Rect.{Rect}
use Rattle.cell_roles.specs.declared.role.Role.{Role}
use Rattle.cell_roles.specs.Roles.{role_ports}
use Rattle.leaf_shapes.specs.Demands.{PinDemand, role_demands}
use Rattle.leaf_tables.specs.declared.kit.Kit.{Kit}
use Rattle.leaf_tables.specs.Kits.{IsKit}
use Rattle.floorplan.specs.LayoutOfKit.{pin_shape}
use Rattle.floorplan.specs.Demanded.{metal_number}

-- one of the role's demands is for the port's pin on the metal; ports and metals are counted from 0
pub record IsDemandedPort (role : Role) (port metal : ℕ) : Type 0 where
  pub place : ℕ
  pub demand : PinDemand
  pub there : slice_get (role_demands role) place ≡ Some demand
  pub named : slice_get (role_ports role) port ≡ Some demand.pin
  pub on : metal_number demand.metal ≡ metal

-- the kit has a shape of the role's port on the metal
abbrev pub HasPortShape : Kit → Role → ℕ → ℕ → Type 0
HasPortShape kit role port metal = (shape : Rect) × (pin_shape kit role port metal ≡ Some shape)

-- A kit has each pin that is demanded.
abbrev pub DemandedPinsAreThere : Type 0
DemandedPinsAreThere = (kit : Kit) → IsKit kit → (role : Role) (port metal : ℕ) → IsDemandedPort role port metal → HasPortShape kit role port metal
