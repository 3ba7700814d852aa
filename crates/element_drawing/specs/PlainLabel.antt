-- A label as plain data, wherever its texts lie.
use Rattle.std.specs.Prelude.{ℕ, List}
use Rattle.or_geom.specs.declared.shape.Point.{Point}

-- its path, which is the names of the instances from the top separated by `/`; its name; the index of its layer in the
-- technology's list; and its point in nanometres
pub record PlainLabel : Type 0 where
  pub path : List ℕ
  pub name : List ℕ
  pub layer : ℕ
  pub at : Point
