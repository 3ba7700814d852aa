-- Arrays as they are read.
use Rattle.std.specs.Prelude.{ℤ}
use Rattle.or_geom.specs.declared.shape.Point.{Point}
use Rattle.gds_records.specs.Values.{IsShort}
use Rattle.gds_library.specs.declared.lattice.ArrayCounts.{ArrayCounts}
use Rattle.gds_library.specs.declared.lattice.ArrayGrid.{ArrayGrid}
use Rattle.gds_library.specs.declared.lattice.Displaced.{Displaced}
use Rattle.gds_library.specs.Values.{Lattice}

abbrev pub as_counts : ArrayCounts → ℤ × ℤ
as_counts c = (c.columns, c.rows)

abbrev pub as_lattice : ArrayGrid → Lattice
as_lattice g = (g.at, (g.across, g.down))

abbrev pub as_three : Displaced → Point × (Point × Point)
as_three d = (d.at, (d.by_columns, d.by_rows))

-- all coordinates fit 32 bits
pub record AreShortPoints (d : Displaced) : Type 0 where
  pub at : IsShort d.at
  pub by_columns : IsShort d.by_columns
  pub by_rows : IsShort d.by_rows
