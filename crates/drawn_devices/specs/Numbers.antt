-- The numbers of the nets of members.
use Rattle.std.specs.Prelude.{◌≡◌, ℕ, slice_get, Some}
use Rattle.or_geom.specs.declared.shape.Shape.{Shape}
use Rattle.drawn_devices.specs.declared.cut_cell.CutCell.{CutCell}
use Rattle.drawn_devices.specs.CutShapes.{StandsIn}
use Rattle.drawn_devices.specs.Nets.{Member, IsMember}

-- each member has the number of each cut shape in which it stands
abbrev pub AreNumbersIn : CutCell → (Member → ℕ) → Type 0
AreNumbersIn cell number = (member : Member) (index : ℕ) (s : Shape) → IsMember cell.tech.now cell.shapes.now member → slice_get cell.bins index ≡ Some s → StandsIn member s → slice_get cell.nets index ≡ Some (number member)
