-- The instances that an element of a structure stands for, and their names.
use Rattle.std.specs.Prelude.{◌≡◌, ℕ, ℤ, pos, ◌<ℤ◌, List, [], ◌∷◌, ◌++◌, map, cond}
use Rattle.std.specs.Ordering.{int_eq}
use Rattle.std.specs.Char.{to_ascii_lowercase}
use Rattle.std.specs.Fmt.{decimal}
use Rattle.or_geom.specs.declared.shape.Point.{Point}
use Rattle.or_geom.specs.declared.place.Place.{Place}
use Rattle.gds_library.specs.declared.library.Prop.{Prop}
use Rattle.gds_library.specs.declared.library.Element.{Element}
use Rattle.gds_library.specs.declared.library.Element.TheVariants.{Boundary, Path, Sref, Aref, Text}
use Rattle.gds_library.specs.Values.{displaced}

-- an instance: its name, the name of its structure, and its place
pub record Item : Type 0 where
  pub name : List ℕ
  pub cell : List ℕ
  pub place : Place

-- `#` and the element's place, from 0, in its structure
abbrev pub numbered : ℕ → List ℕ
numbered n = 35 ∷ decimal n

-- the value of the first property 1 in lower case; else the numbered name
abbrev pub reference_name : ℕ → List Prop → List ℕ
reference_name n [] = numbered n
reference_name n (p ∷ ps) = cond (int_eq p.attr (pos 1)) (map to_ascii_lowercase p.value) (reference_name n ps)

-- the numbered name, the column and the row, separated by `.`
abbrev pub array_name : ℕ → ℕ → ℕ → List ℕ
array_name n column row = numbered n ++ (46 ∷ decimal column) ++ (46 ∷ decimal row)

pub record IsReferenceItem (n : ℕ) (name : List ℕ) (place : Place) (props : List Prop) (item : Item) : Type 0 where
  pub named : item.name ≡ reference_name n props
  pub cell : item.cell ≡ name
  pub placed : item.place ≡ place

-- where an item of an array stands: the origin displaced by so many columns and rows
abbrev pub item_place : Place → ℕ → ℕ → Point → Point → Place
item_place place column row across down = record { orient = place.orient; at = displaced (displaced place.at (pos column) across) (pos row) down }

pub record IsArrayItem (n : ℕ) (name : List ℕ) (place : Place) (columns rows : ℤ) (across down : Point) (item : Item) : Type 0 where
  pub column : ℕ
  pub row : ℕ
  pub in_columns : pos column <ℤ columns
  pub in_rows : pos row <ℤ rows
  pub named : item.name ≡ array_name n column row
  pub cell : item.cell ≡ name
  pub placed : item.place ≡ item_place place column row across down

-- the element at place n of its structure stands for the item
abbrev pub HasItem : ℕ → Element → Item → Type 0
HasItem n (Boundary layer datatype points props) item = ⊥
HasItem n (Path layer datatype kind width points props) item = ⊥
HasItem n (Sref name place props) item = IsReferenceItem n name place props item
HasItem n (Aref name place columns rows across down props) item = IsArrayItem n name place columns rows across down item
HasItem n (Text layer texttype at string props) item = ⊥
