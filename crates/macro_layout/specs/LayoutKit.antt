-- What a layout takes of the leaf cells.
use Rattle.std.specs.Prelude.{ℕ, List}
use Rattle.or_geom.specs.declared.shape.Rect.{Rect}
use Rattle.cell_roles.specs.declared.role.Role.{Role}

-- Of each role: its cell's name, the cell's sides in nanometres, and where the shape of a port lies in it. Ports are counted
-- from 0 in their order, metals from 0 upwards.
pub record LayoutKit : Type 0 where
  pub cell : Role → List ℕ
  pub width : Role → ℕ
  pub height : Role → ℕ
  pub pin : Role → ℕ → ℕ → Rect
