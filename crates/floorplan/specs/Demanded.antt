-- Which of the shapes of a leaf cell's pins is that of a port on a metal.
use Rattle.std.specs.Prelude.{◌≡◌, ◌<◌, ℕ, List, Bool, true, false, length, slice_get, Some, if◌then◌else◌}
use Rattle.std.specs.Str.{bytes_eq}
use Rattle.std.specs.List.{position_or_len}
use Rattle.cell_roles.specs.declared.role.Role.{Role}
use Rattle.cell_roles.specs.Roles.{role_ports}
use Rattle.leaf_shapes.specs.declared.demand.Metal.{Metal}
use Rattle.leaf_shapes.specs.declared.demand.Metal.TheVariants.{M1, M2, M3, M4}
use Rattle.leaf_shapes.specs.Demands.{PinDemand, role_demands}

-- metals are counted from 0
abbrev pub metal_number : Metal → ℕ
metal_number M1 = 0
metal_number M2 = 1
metal_number M3 = 2
metal_number M4 = 3

abbrev pub same_metal : Metal → Metal → Bool
same_metal M1 M1 = true
same_metal M2 M2 = true
same_metal M3 M3 = true
same_metal M4 M4 = true
same_metal a b = false

-- the demand is for a pin of this name on this metal
abbrev pub asks_for : List ℕ → Metal → PinDemand → Bool
asks_for name metal demand = if bytes_eq demand.pin name then same_metal demand.metal metal else false

-- the role's demand of this index is the first for the port on the metal
pub record IsDemandOf (role : Role) (port metal index : ℕ) : Type 0 where
  pub name : List ℕ
  pub named : slice_get (role_ports role) port ≡ Some name
  pub on : Metal
  pub number : metal_number on ≡ metal
  pub first : position_or_len (asks_for name on) (role_demands role) ≡ index
  pub there : index < length (role_demands role)
