-- How many shapes and labels stand below a structure, counted once for each way that leads to them.
use Rattle.std.specs.Prelude.{◌≡◌, ◌⊎◌, ℕ, zero, suc, ◌+◌, ◌*◌, ◌^◌, ◌<◌, ◌≤◌, min, List, [], ◌∷◌, length, slice_get, Some, nat_abs}
use Rattle.or_geom.specs.declared.shape.Shape.{Shape}
use Rattle.gds_library.specs.declared.library.Element.{Element}
use Rattle.gds_library.specs.declared.library.Element.TheVariants.{Boundary, Path, Sref, Aref, Text}
use Rattle.gds_library.specs.declared.library.Structure.{Structure}
use Rattle.tech_rules.specs.declared.tech.Layer.{Layer}
use Rattle.element_drawing.specs.OwnShapes.{AreOwnShapes}
use Rattle.element_drawing.specs.OwnLabels.{own_labels}
use Rattle.cell_chains.specs.declared.cell.Cell.{Cell}
use Rattle.cell_chains.specs.Chains.{elements_of}
use Rattle.cell_hierarchy.specs.declared.counts.SaturatedCounts.{SaturatedCounts}

-- numbers of shapes and labels, however large
pub record Total : Type 0 where
  pub shapes : ℕ
  pub labels : ℕ

abbrev pub none : Total
none = record { shapes = 0; labels = 0 }

abbrev pub sum : Total → Total → Total
sum a b = record { shapes = a.shapes + b.shapes; labels = a.labels + b.labels }

abbrev pub times : ℕ → Total → Total
times n a = record { shapes = n * a.shapes; labels = n * a.labels }

-- what the elements draw themselves, a slab or a box each, equal ones counted each time
pub record IsOwnTotal (layers : List Layer) (elements : List Element) (total : Total) : Type 0 where
  pub shapes : List Shape
  pub drawn : AreOwnShapes layers elements shapes
  pub shape_count : total.shapes ≡ length shapes
  pub label_count : total.labels ≡ length (own_labels layers elements)

-- what stands below the references among the elements, where `IsTotal` says how much each structure has; an array counts
-- once for each of its items
abbrev pub IsBelow : (List ℕ → Total → Type 0) → List Element → Total → Type 0
IsBelow IsTotal [] total = total ≡ none
IsBelow IsTotal (Boundary layer datatype points props ∷ es) total = IsBelow IsTotal es total
IsBelow IsTotal (Path layer datatype kind width points props ∷ es) total = IsBelow IsTotal es total
IsBelow IsTotal (Sref name place props ∷ es) total =
    (each : Total) × (rest : Total) × IsTotal name each × IsBelow IsTotal es rest × (total ≡ sum each rest)
IsBelow IsTotal (Aref name place columns rows across down props ∷ es) total =
    (each : Total) × (rest : Total) × IsTotal name each × IsBelow IsTotal es rest × (total ≡ sum (times (nat_abs columns * nat_abs rows) each) rest)
IsBelow IsTotal (Text layer texttype at string props ∷ es) total = IsBelow IsTotal es total

-- what a structure has itself and by ways of at most `depth` references
abbrev pub IsTotalWithin : ℕ → List Layer → List Structure → List ℕ → Total → Type 0
IsTotalWithin zero layers structs name total = IsOwnTotal layers (elements_of structs name) total
IsTotalWithin (suc depth) layers structs name total =
    (own : Total) × (below : Total) × IsOwnTotal layers (elements_of structs name) own
    × IsBelow (IsTotalWithin depth layers structs) (elements_of structs name) below × (total ≡ sum own below)

-- the numbers, where each stands at 2^32 if it is larger
pub record IsSaturated (total : Total) (counts : SaturatedCounts) : Type 0 where
  pub shapes : counts.shapes ≡ min total.shapes (2 ^ 32)
  pub labels : counts.labels ≡ min total.labels (2 ^ 32)

-- the counts of what a structure has itself and by ways of at most `depth` references
pub record AreCountsWithin (depth : ℕ) (layers : List Layer) (structs : List Structure) (name : List ℕ) (counts : SaturatedCounts) : Type 0 where
  pub total : Total
  pub is : IsTotalWithin depth layers structs name total
  pub standing : IsSaturated total counts

-- the counts of what the cell's elements draw themselves
pub record AreOwnCounts (layers : List Layer) (structs : List Structure) (cell : Cell) (counts : SaturatedCounts) : Type 0 where
  pub structure : Structure
  pub stands : slice_get structs cell.structure ≡ Some structure
  pub total : Total
  pub is : IsOwnTotal layers structure.elements total
  pub standing : IsSaturated total counts

-- cell by cell
abbrev pub AreAllOwnCounts : List Layer → List Structure → List Cell → List SaturatedCounts → Type 0
AreAllOwnCounts layers structs [] [] = Unit {0}
AreAllOwnCounts layers structs [] (c ∷ cs) = ⊥
AreAllOwnCounts layers structs (cell ∷ cells) [] = ⊥
AreAllOwnCounts layers structs (cell ∷ cells) (c ∷ cs) = AreOwnCounts layers structs cell c × AreAllOwnCounts layers structs cells cs

-- at most 2^24 shapes and 2^22 labels
pub record AreFew (total : Total) : Type 0 where
  pub shapes : total.shapes ≤ 2 ^ 24
  pub labels : total.labels ≤ 2 ^ 22

abbrev pub AreMany : Total → Type 0
AreMany total = (2 ^ 24 < total.shapes) ⊎ (2 ^ 22 < total.labels)
