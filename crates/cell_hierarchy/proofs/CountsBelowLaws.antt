-- What stands below an element, and element by element below all of them.
use Rattle.std.proofs.Common.{◌≡◌, ℕ, suc, ◌+◌, ◌<◌, List, ◌∷◌, length, get_or, drop, sym, subst, ap, ◌∙◌, arith, drop-cons, add-one}
use Rattle.std.proofs.lemmas.Option.{get_or_from_slice_get}
use Rattle.gds_library.specs.declared.library.Element.{Element}
use Rattle.cell_hierarchy.specs.declared.counts.SaturatedCounts.{SaturatedCounts}
use Rattle.cell_hierarchy.specs.Counts.{Total, IsSaturated, sum}
use Rattle.cell_hierarchy.specs.CountsBelow.{IsTotalAt, IsBelowElement, AreBelowFrom}

-- what the counts at a place stand for
pub read_saturated : (counts : List SaturatedCounts) (place : ℕ) (total : Total) (d : SaturatedCounts) → IsTotalAt counts place total → IsSaturated total (get_or counts place d)
read_saturated counts place total d s = subst (λ (c : SaturatedCounts). IsSaturated total c) (sym (get_or_from_slice_get counts place s.each d s.is)) s.standing

-- the elements before the place have so much below them, and with those from the place on they have the total
pub record IsSumTo (counts : List SaturatedCounts) (targets : List ℕ) (elements : List Element) (place : ℕ) (so_far : SaturatedCounts) (total : Total) : Type 0 where
  pub done : Total
  pub rest : Total
  pub standing : IsSaturated done so_far
  pub left : AreBelowFrom counts targets place (drop place elements) rest
  pub is : total ≡ sum done rest

sum_regrouped : (a b c : Total) → sum a (sum b c) ≡ sum (sum a b) c
sum_regrouped a b c =
    let shapes : a.shapes + (b.shapes + c.shapes) ≡ a.shapes + b.shapes + c.shapes = omega arith in
    let labels : a.labels + (b.labels + c.labels) ≡ a.labels + b.labels + c.labels = omega arith in
    λ i. record { shapes = shapes i; labels = labels i }

-- one element further
pub sum_more : (counts : List SaturatedCounts) (targets : List ℕ) (elements : List Element) (place : ℕ) (e : Element) (so_far first next : SaturatedCounts) (total : Total) → place < length elements → e ≡ get_or elements place e
    → ((t : Total) → IsBelowElement counts (get_or targets place 0) e t → IsSaturated t first) → ((x y : Total) → IsSaturated x so_far → IsSaturated y first → IsSaturated (sum x y) next)
    → IsSumTo counts targets elements place so_far total → IsSumTo counts targets elements (place + 1) next total
sum_more counts targets elements place e so_far first next total lt is one both s =
    let front : drop place elements ≡ e ∷ drop (suc place) elements = drop-cons elements place e lt ∙ ap (λ (x : Element). x ∷ drop (suc place) elements) (sym is) in
    let left = subst (λ (es : List Element). AreBelowFrom counts targets place es s.rest) front s.left in
    record {
      done = sum s.done left.0;
      rest = left.1;
      standing = both s.done left.0 s.standing (one left.0 left.2);
      left = subst (λ (n : ℕ). AreBelowFrom counts targets n (drop n elements) left.1) (sym (add-one place)) left.3;
      is = s.is ∙ (ap (sum s.done) left.4 ∙ sum_regrouped s.done left.0 left.1);
    }
