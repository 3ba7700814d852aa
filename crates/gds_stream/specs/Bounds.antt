-- Closed boxes round points.
use Rattle.std.specs.Prelude.{List}
use Rattle.std.specs.List.{AllByRecursion}
use Rattle.or_geom.specs.declared.shape.Point.{Point}
use Rattle.rectilinear.specs.Extents.{IsWithinExtent, IsCommon, IsEmpty}
use Rattle.gds_stream.specs.declared.bounds.Bounds.{Bounds}

abbrev pub IsWithinBounds : Bounds → Point → Type 0
IsWithinBounds b p = IsWithinExtent (record { low = b.low; high = b.high }) p

-- exactly what lies within both boxes lies within the third
abbrev pub AreCommonBounds : Bounds → Bounds → Bounds → Type 0
AreCommonBounds e f both =
    IsCommon (record { low = e.low; high = e.high }) (record { low = f.low; high = f.high })
    (record { low = both.low; high = both.high })

abbrev pub AreEmptyBounds : Bounds → Type 0
AreEmptyBounds b = IsEmpty (record { low = b.low; high = b.high })

abbrev pub HoldsPoints : Bounds → List Point → Type 0
HoldsPoints b points = AllByRecursion (IsWithinBounds b) points

-- the box has what the other has, and the point
pub record IsWidened (b : Bounds) (point : Point) (wider : Bounds) : Type 0 where
  pub each : (p : Point) → IsWithinBounds b p → IsWithinBounds wider p
  pub holds : IsWithinBounds wider point
