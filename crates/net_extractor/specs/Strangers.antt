-- Labels that stand at no leaf instance.
use Rattle.std.specs.Prelude.{ℕ, List}
use Rattle.or_geom.specs.Gathering.{SomeHas}
use Rattle.netlist.specs.declared.rows.RowPin.{RowPin}
use Rattle.net_extractor.specs.Difference.{IsPlacedBy}

-- the path stands at a leaf instance that has a pin
abbrev pub IsLeafPath : List RowPin → List ℕ → Type 0
IsLeafPath pins path = SomeHas (IsPlacedBy path) pins
