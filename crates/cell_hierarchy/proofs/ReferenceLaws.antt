-- Totals below elements from the totals of the cells to which their references lead.
use Rattle.std.proofs.Common.{◌≡◌, ℕ, suc, ◌+◌, ◌*◌, List, [], ◌∷◌, get_or, Some, refl, arith, nat_abs}
use Rattle.std.specs.List.{slice_get}
use Rattle.gds_library.specs.declared.library.Element.{Element}
use Rattle.gds_library.specs.declared.library.Element.TheVariants.{Boundary, Path, Sref, Aref, Text}
use Rattle.cell_chains.specs.Hierarchy.{referred_name}
use Rattle.cell_hierarchy.specs.declared.counts.SaturatedCounts.{SaturatedCounts}
use Rattle.cell_hierarchy.specs.Counts.{Total, IsBelow, none, sum, times}
use Rattle.cell_hierarchy.specs.CountsBelow.{IsTotalAt, AreBelowFrom}

-- the counts at the place stand for a total of the structure of the name
pub record IsFound (IsTotal : List ℕ → Total → Type 0) (counts : List SaturatedCounts) (place : ℕ) (name : List ℕ) : Type 0 where
  pub total : Total
  pub is : IsTotal name total
  pub stands : IsTotalAt counts place total

-- one total by the names and by the places of the references
pub record AreBothBelow (IsTotal : List ℕ → Total → Type 0) (counts : List SaturatedCounts) (targets : List ℕ) (n : ℕ) (elements : List Element) : Type 0 where
  pub total : Total
  pub by_name : IsBelow IsTotal elements total
  pub by_place : AreBelowFrom counts targets n elements total

none_more : (a : Total) → a ≡ sum none a
none_more a =
    let shapes : a.shapes ≡ 0 + a.shapes = omega arith in
    let labels : a.labels ≡ 0 + a.labels = omega arith in
    λ i. record { shapes = shapes i; labels = labels i }

pub more_none : (a : Total) → sum a none ≡ a
more_none a =
    let shapes : a.shapes + 0 ≡ a.shapes = omega arith in
    let labels : a.labels + 0 ≡ a.labels = omega arith in
    λ i. record { shapes = shapes i; labels = labels i }

pub both_below : (IsTotal : List ℕ → Total → Type 0) (counts : List SaturatedCounts) (targets : List ℕ) (n : ℕ) (elements : List Element)
    → ((m : ℕ) (e : Element) (name : List ℕ) (place : ℕ) → slice_get elements m ≡ Some e → referred_name e ≡ Some name → place ≡ n + m → IsFound IsTotal counts (get_or targets place 0) name)
    → AreBothBelow IsTotal counts targets n elements
both_below IsTotal counts targets n [] found = record { total = none; by_name = refl; by_place = refl }
both_below IsTotal counts targets n (Boundary layer datatype points props ∷ es) found =
    let r = both_below IsTotal counts targets (suc n) es (λ m e name place is refers spot. found (suc m) e name place is refers (omega arith)) in
    record { total = r.total; by_name = r.by_name; by_place = (none, r.total, refl, r.by_place, none_more r.total) }
both_below IsTotal counts targets n (Path layer datatype kind width points props ∷ es) found =
    let r = both_below IsTotal counts targets (suc n) es (λ m e name place is refers spot. found (suc m) e name place is refers (omega arith)) in
    record { total = r.total; by_name = r.by_name; by_place = (none, r.total, refl, r.by_place, none_more r.total) }
both_below IsTotal counts targets n (Sref name place props ∷ es) found =
    let r = both_below IsTotal counts targets (suc n) es (λ m e name place is refers spot. found (suc m) e name place is refers (omega arith)) in
    let f = found 0 (Sref name place props) name n refl refl (omega arith) in
    record { total = sum f.total r.total; by_name = (f.total, r.total, f.is, r.by_name, refl); by_place = (f.total, r.total, f.stands, r.by_place, refl) }
both_below IsTotal counts targets n (Aref name place columns rows across down props ∷ es) found =
    let r = both_below IsTotal counts targets (suc n) es (λ m e name place is refers spot. found (suc m) e name place is refers (omega arith)) in
    let f = found 0 (Aref name place columns rows across down props) name n refl refl (omega arith) in
    let items = times (nat_abs columns * nat_abs rows) f.total in
    record { total = sum items r.total; by_name = (f.total, r.total, f.is, r.by_name, refl); by_place = (items, r.total, (f.total, f.stands, refl), r.by_place, refl) }
both_below IsTotal counts targets n (Text layer texttype at string props ∷ es) found =
    let r = both_below IsTotal counts targets (suc n) es (λ m e name place is refers spot. found (suc m) e name place is refers (omega arith)) in
    record { total = r.total; by_name = r.by_name; by_place = (none, r.total, refl, r.by_place, none_more r.total) }

-- nothing stands below elements that refer to none
pub none_below : (counts : List SaturatedCounts) (targets : List ℕ) (n : ℕ) (elements : List Element) → ((m : ℕ) (e : Element) (name : List ℕ) → slice_get elements m ≡ Some e → referred_name e ≡ Some name → ⊥)
    → AreBelowFrom counts targets n elements none
none_below counts targets n [] free = refl
none_below counts targets n (Boundary layer datatype points props ∷ es) free = (none, none, refl, none_below counts targets (suc n) es (λ m. free (suc m)), none_more none)
none_below counts targets n (Path layer datatype kind width points props ∷ es) free = (none, none, refl, none_below counts targets (suc n) es (λ m. free (suc m)), none_more none)
none_below counts targets n (Sref name place props ∷ es) free = absurd (free 0 (Sref name place props) name refl refl)
none_below counts targets n (Aref name place columns rows across down props ∷ es) free = absurd (free 0 (Aref name place columns rows across down props) name refl refl)
none_below counts targets n (Text layer texttype at string props ∷ es) free = (none, none, refl, none_below counts targets (suc n) es (λ m. free (suc m)), none_more none)
