-- The libraries that a file can have: every value is one that a record can give. Layers, the numbers beside them and
-- attributes have 16 bits by their types.
use Rattle.std.specs.Prelude.{◌≡◌, ◌≢◌, ◌⊎◌, ◌≤◌, ◌+◌, ℕ, ℤ, pos, ◌≤ℤ◌, List, length, int_rem}
use Rattle.std.specs.List.{AllByRecursion, AllPairs}
use Rattle.or_geom.specs.declared.shape.Point.{Point}
use Rattle.or_geom.specs.declared.place.Place.{Place}
use Rattle.rectilinear.specs.Corners.{corners_of}
use Rattle.rectilinear.specs.Simple.{AllStraight, IsSimple}
use Rattle.gds_records.specs.declared.limits.TheConstants.{LEAST_CHARACTER, GREATEST_CHARACTER, MOST_CHARACTERS, MOST_POINTS}
use Rattle.gds_records.specs.Bytes.{AreBytes}
use Rattle.gds_records.specs.Values.{IsShort}
use Rattle.gds_library.specs.declared.limits.TheConstants.{MOST_WIDTH, MOST_COUNT}
use Rattle.gds_library.specs.declared.library.Prop.{Prop}
use Rattle.gds_library.specs.declared.library.Element.{Element}
use Rattle.gds_library.specs.declared.library.Element.TheVariants.{Boundary, Path, Sref, Aref, Text}
use Rattle.gds_library.specs.declared.library.Structure.{Structure}
use Rattle.gds_library.specs.declared.library.Library.{Library}
use Rattle.gds_library.specs.Values.{segments, displaced}
use Rattle.gds_library.specs.Grammar.{Spells}

-- a printable character, blanks among them
pub record IsPrintable (byte : ℕ) : Type 0 where
  pub above : LEAST_CHARACTER ≤ byte
  pub below : byte ≤ GREATEST_CHARACTER

-- 1 to 512 characters, all of them printable
pub record IsText (text : List ℕ) : Type 0 where
  pub some : 1 ≤ length text
  pub few : length text ≤ MOST_CHARACTERS
  pub printable : AllByRecursion IsPrintable text

abbrev pub IsWritableProp : Prop → Type 0
IsWritableProp p = IsText p.value

-- the corners of a polygon with sides parallel to the axes, of which no two meet but neighbours at their corner; no corner
-- lies inside a straight run, and one record holds them all and the first again
pub record IsWritableRing (corners : List Point) : Type 0 where
  pub short : AllByRecursion IsShort corners
  pub few : length corners + 1 ≤ MOST_POINTS
  pub simple : IsSimple corners
  pub turning : corners_of corners ≡ corners

-- a path with flush ends or ends longer by half the width, which is even; one record holds the points
pub record IsWritableTrack (kind width : ℤ) (points : List Point) : Type 0 where
  pub ends : (kind ≡ pos 0) ⊎ (kind ≡ pos 2)
  pub positive : pos 1 ≤ℤ width
  pub most : width ≤ℤ MOST_WIDTH
  pub even : int_rem width (pos 2) ≡ pos 0
  pub short : AllByRecursion IsShort points
  pub two : 2 ≤ length points
  pub few : length points ≤ MOST_POINTS
  pub straight : AllStraight (segments points)

-- one to 32767 columns and rows, and the two displaced origins fit 32 bits as the origin does
pub record IsWritableArray (place : Place) (columns rows : ℤ) (across down : Point) : Type 0 where
  pub some_columns : pos 1 ≤ℤ columns
  pub few_columns : columns ≤ℤ MOST_COUNT
  pub some_rows : pos 1 ≤ℤ rows
  pub few_rows : rows ≤ℤ MOST_COUNT
  pub at : IsShort place.at
  pub by_columns : IsShort (displaced place.at columns across)
  pub by_rows : IsShort (displaced place.at rows down)

pub record IsWritableReference (name : List ℕ) (place : Place) : Type 0 where
  pub named : IsText name
  pub at : IsShort place.at

pub record IsWritableLabel (string : List ℕ) (at : Point) : Type 0 where
  pub text : IsText string
  pub short : IsShort at

-- what an element is besides its properties
abbrev pub IsWritableBody : Element → Type 0
IsWritableBody (Boundary layer datatype points props) = IsWritableRing points
IsWritableBody (Path layer datatype kind width points props) = IsWritableTrack kind width points
IsWritableBody (Sref name place props) = IsWritableReference name place
IsWritableBody (Aref name place columns rows across down props) = IsText name
    × IsWritableArray place columns rows across down
IsWritableBody (Text layer texttype at string props) = IsWritableLabel string at

abbrev pub props_of : Element → List Prop
props_of (Boundary layer datatype points props) = props
props_of (Path layer datatype kind width points props) = props
props_of (Sref name place props) = props
props_of (Aref name place columns rows across down props) = props
props_of (Text layer texttype at string props) = props

pub record IsWritableElement (e : Element) : Type 0 where
  pub body : IsWritableBody e
  pub props : AllByRecursion IsWritableProp (props_of e)

pub record IsWritableCell (cell : Structure) : Type 0 where
  pub name : IsText cell.name
  pub elements : AllByRecursion IsWritableElement cell.elements

-- names are texts and those of structures differ, and all values are ones that the reader can give
pub record IsWritable (lib : Library) : Type 0 where
  pub name : IsText lib.name
  pub names : AllPairs (λ a b. a.name ≢ b.name) lib.structs
  pub cells : AllByRecursion IsWritableCell lib.structs

-- what is spelled is writable
abbrev pub LibrariesAreWritable : Type 0
LibrariesAreWritable = (bytes : List ℕ) (lib : Library) → AreBytes bytes → Spells bytes lib → IsWritable lib
