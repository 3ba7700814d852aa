-- What is known of the shapes from those that were looked at.
use Rattle.std.specs.Prelude.{List, IfSome}
use Rattle.or_geom.specs.declared.shape.Shape.{Shape}
use Rattle.tile_checker.specs.ClearArea.{IsClearArea}
use Rattle.tile_checker.specs.Candidates.{AreTrueCandidates}
use Rattle.tile_checker.specs.WideArea.{IsSeen}
use Rattle.tile_checker.specs.declared.notes.Notes.{Notes}

-- the wide area, the clear box and the second shapes of the notes, if there are any, are what they say
pub record AreTrueNotes (shapes : List Shape) (notes : Notes) : Type 0 where
  pub wide : IsSeen shapes notes.wide
  pub clear : IfSome notes.clear (IsClearArea shapes)
  pub candidates : IfSome notes.candidates (AreTrueCandidates shapes)
