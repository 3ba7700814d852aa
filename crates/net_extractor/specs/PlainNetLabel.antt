-- A label with its net as plain data, wherever its texts lie.
use Rattle.std.specs.Prelude.{ℕ, List, Option}
use Rattle.or_geom.specs.declared.shape.Point.{Point}

-- its path, which is the names of the instances from the top separated by `/`; its name; the place of its layer in the technology's list;
-- its point in nanometres; and the number of its net, from 0 by first appearance, if it binds a shape
pub record PlainNetLabel : Type 0 where
  pub path : List ℕ
  pub name : List ℕ
  pub layer : ℕ
  pub at : Point
  pub net : Option ℕ
