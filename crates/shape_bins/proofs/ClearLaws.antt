-- What stands in the way of none is clear.
use Rattle.std.proofs.Common.{◌≡◌, inl, inr, ◌⊎◌, ℕ, ◌+◌, ℤ, pos, ◌+ℤ◌, ◌-ℤ◌, List, [], ◌∷◌, ◌++◌, length, length-append, get_or, zero, suc, Some, refl, sym, subst, ap, ◌∙◌, arith}
use Rattle.std.specs.Prelude.{slice_get}
use Rattle.std.proofs.lemmas.Int.{ints}
use Rattle.std.proofs.lemmas.Option.{same_Some, slice_get_within, slice_get-get_or, get_or_from_slice_get}
use Rattle.or_geom.specs.declared.shape.Point.{Point}
use Rattle.or_geom.specs.declared.shape.Rect.{Rect}
use Rattle.or_geom.specs.declared.shape.Shape.{Shape}
use Rattle.or_geom.specs.Covered.{HasCell}
use Rattle.shape_bins.specs.declared.clear.ClearBox.{ClearBox}
use Rattle.shape_bins.specs.declared.query.Query.TheVariants.{Holds, MeetsOutside}
use Rattle.shape_bins.specs.Clear.{HasClearance, IsGrownBelow, AreClear, AreClearTo, IsClearBox}
use Rattle.shape_bins.specs.Filled.{AreFilledBoxes}
use Rattle.shape_bins.specs.Hits.{IsHit, NoHitFrom}
use Rattle.shape_bins.proofs.CoverLaws.{hit_read}
use Rattle.shape_bins.proofs.FilledLaws.{cell_filled}

-- where no shape outside of the box meets the grown box, none comes nearer
pub clear_none : (shapes : List Shape) (layer : ℕ) (box area : Rect) (clearance : ℤ) → IsGrownBelow clearance box area → NoHitFrom shapes layer (MeetsOutside area box) 0 → HasClearance shapes layer box clearance
clear_none shapes layer box area clearance grown none _ place s there on near outside =
    none place (omega arith) (record { shape = s; there = there; on = on; fits = record { meets = grown s.rect near; outside = outside } })

-- what stands in a list to which one was added
got_cases : (xs : List ℤ) (x : ℤ) (k : ℕ) (y : ℤ) → slice_get (xs ++ x ∷ []) k ≡ Some y → (slice_get xs k ≡ Some y) ⊎ ((k ≡ length xs) × (y ≡ x))
got_cases [] x zero y is = inr (refl, same_Some y x (sym is))
got_cases [] x (suc k) y is = absurd cc
got_cases (z ∷ xs) x zero y is = inl is
got_cases (z ∷ xs) x (suc k) y is = elim (got_cases xs x k y is) [ inl h ↦ inl h | inr l ↦ inr (ap suc l.0, l.1) ]

pub clear_more : (shapes boxes : List Shape) (count : ℕ) (box : Shape) (clearance : ℤ) (old new : List ℤ) → slice_get boxes count ≡ Some box → HasClearance shapes box.layer box.rect clearance → new ≡ old ++ clearance ∷ [] → AreClearTo shapes boxes count old
    → AreClearTo shapes boxes (count + 1) new
clear_more shapes boxes count box clearance old new there clear is all = record {
  sized = ap (λ (l : List ℤ). length l) is ∙ length-append old (clearance ∷ []) ∙ ap (λ (k : ℕ). k + 1) all.sized;
  each = λ place other reach at got. elim (got_cases old clearance place reach (subst (λ (l : List ℤ). slice_get l place ≡ Some reach) is got)) [
    | inl before ↦ all.each place other reach at before
    | inr last ↦
        let here : place ≡ count = last.0 ∙ all.sized in
        let same : box ≡ other = same_Some box other (sym there ∙ subst (λ (k : ℕ). slice_get boxes k ≡ Some other) here at) in
        subst (λ (s : Shape). HasClearance shapes s.layer s.rect reach) same (subst (λ (z : ℤ). HasClearance shapes box.layer box.rect z) (sym last.1) clear)
  ];
}

pub grown_meets : (clearance : ℤ) (rect grown : Rect) → grown.x1 ≡ (rect.x1 -ℤ (clearance -ℤ pos 1)) → grown.y1 ≡ (rect.y1 -ℤ (clearance -ℤ pos 1)) → grown.x2 ≡ (rect.x2 +ℤ (clearance -ℤ pos 1)) → grown.y2 ≡ (rect.y2 +ℤ (clearance -ℤ pos 1))
    → IsGrownBelow clearance rect grown
grown_meets clearance rect grown x1 y1 x2 y2 r near = record {
  left = omega (arith, ints, near.left, x2);
  right = omega (arith, ints, near.right, x1);
  low = omega (arith, ints, near.low, y2);
  high = omega (arith, ints, near.high, y1);
}

-- a filled box that holds the cell, as the code reads it
pub clear_at : (shapes boxes : List Shape) (clearances : List ℤ) (layer : ℕ) (cell : Point) (place : ℕ) (other : Shape) (none : ℤ) (box : ClearBox) → AreFilledBoxes shapes boxes → AreClear shapes boxes clearances → IsHit boxes layer (Holds cell) place
    → box.rect ≡ (get_or boxes place other).rect → box.clearance ≡ get_or clearances place none → IsClearBox shapes layer cell box
clear_at shapes boxes clearances layer cell place other none box filled clear hit rect is =
    let e : get_or boxes place other ≡ hit.shape = get_or_from_slice_get boxes place hit.shape other hit.there in
    let same : box.rect ≡ hit.shape.rect = rect ∙ ap (λ (s : Shape). s.rect) e in
    let lt = slice_get_within boxes place hit.shape hit.there in
    let got : slice_get clearances place ≡ Some box.clearance = slice_get-get_or clearances place none (omega (arith, lt, clear.sized)) ∙ ap (λ (z : ℤ). Some z) (sym is) in
    let f = hit_read boxes layer cell place other hit in
    record {
      found = record {
        holds = subst (λ (r : Rect). HasCell r cell.x cell.y) (sym rect) f.holds;
        covered = λ x y h. cell_filled shapes boxes layer x y filled (f.covered x y (subst (λ (r : Rect). HasCell r x y) rect h));
      };
      clear = subst (λ (k : ℕ). HasClearance shapes k box.rect box.clearance) hit.on (subst (λ (r : Rect). HasClearance shapes hit.shape.layer r box.clearance) (sym same) (clear.each place hit.shape box.clearance hit.there got));
    }
