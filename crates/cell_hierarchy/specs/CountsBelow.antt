-- What stands below elements whose references lead to places of a list of counts.
use Rattle.std.specs.Prelude.{◌≡◌, ℕ, suc, ◌*◌, ◌<◌, List, [], ◌∷◌, length, slice_get, slice_index, Some, nat_abs}
use Rattle.gds_library.specs.declared.library.Element.{Element}
use Rattle.gds_library.specs.declared.library.Element.TheVariants.{Boundary, Path, Sref, Aref, Text}
use Rattle.cell_chains.specs.Hierarchy.{referred_name}
use Rattle.cell_hierarchy.specs.declared.counts.SaturatedCounts.{SaturatedCounts}
use Rattle.cell_hierarchy.specs.Counts.{Total, IsSaturated, none, sum, times}

-- the counts at the place stand for so much
pub record IsTotalAt (counts : List SaturatedCounts) (place : ℕ) (total : Total) : Type 0 where
  pub each : SaturatedCounts
  pub is : slice_get counts place ≡ Some each
  pub standing : IsSaturated total each

-- so much stands below an element, of which each item has what the counts at the target stand for
abbrev pub IsBelowElement : List SaturatedCounts → ℕ → Element → Total → Type 0
IsBelowElement counts target (Boundary layer datatype points props) total = total ≡ none
IsBelowElement counts target (Path layer datatype kind width points props) total = total ≡ none
IsBelowElement counts target (Sref name place props) total = IsTotalAt counts target total
IsBelowElement counts target (Aref name place columns rows across down props) total =
    (each : Total) × IsTotalAt counts target each × (total ≡ times (nat_abs columns * nat_abs rows) each)
IsBelowElement counts target (Text layer texttype at string props) total = total ≡ none

-- so much stands below the elements, of which the first has place n
abbrev pub AreBelowFrom : List SaturatedCounts → List ℕ → ℕ → List Element → Total → Type 0
AreBelowFrom counts targets n [] total = total ≡ none
AreBelowFrom counts targets n (e ∷ es) total =
    (first : Total) × (rest : Total) × IsBelowElement counts (slice_index targets n) e first × AreBelowFrom counts targets (suc n) es rest
    × (total ≡ sum first rest)

-- there are counts for each reference
abbrev pub HaveCounts : List Element → List ℕ → List SaturatedCounts → Type 0
HaveCounts elements targets counts =
    (n : ℕ) (e : Element) (name : List ℕ) → slice_get elements n ≡ Some e → referred_name e ≡ Some name → slice_index targets n < length counts
