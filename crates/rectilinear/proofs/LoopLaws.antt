-- What the loops keep.
use Rattle.std.proofs.Common.{◌≡◌, List, [], ◌∷◌, ◌++◌, ℤ, Bool, true, false, not, ◌&&◌, refl, ap, sym, subst, ◌∙◌, append_assoc}
use Rattle.std.specs.Prelude.{int_le}
use Rattle.rectilinear.specs.declared.ends.End.{End}
use Rattle.rectilinear.specs.declared.ring.RingSide.{RingSide}
use Rattle.or_geom.specs.declared.shape.Rect.{Rect}
use Rattle.rectilinear.specs.Slabs.{xor, passes, is_odd_left}
use Rattle.rectilinear.specs.Rows.{is_odd_to, is_odd, is_odd_passed, Rise, AreEnds, ArePairs, IsToggled}
use Rattle.rectilinear.proofs.RowLaws.{rises}
use Rattle.rectilinear.proofs.ToggleLaws.{twice_not}

-- the ends of the sides so far, and what is left
pub record AreEndsBut (sides rest : List RingSide) (y : ℤ) (ends : List End) : Type 0 where
  pub rise : Rise ends
  pub even : xor (is_odd ends) (is_odd_passed rest y) ≡ is_odd_passed sides y
  pub same : (x : ℤ) → xor (is_odd_to ends x) (is_odd_left rest x y) ≡ is_odd_left sides x y

pub ends_none : (sides : List RingSide) (y : ℤ) → AreEndsBut sides sides y []
ends_none sides y = record { rise = tt; even = refl; same = λ x. refl }

xor_false : (a b : Bool) → xor a false ≡ b → a ≡ b
xor_false true b e = e
xor_false false b e = e

turned : (a b : Bool) → xor (not a) b ≡ xor a (xor true b)
turned true true = refl
turned true false = refl
turned false true = refl
turned false false = refl

moved : (t a b : Bool) → xor (xor t a) b ≡ xor a (xor t b)
moved true true true = refl
moved true true false = refl
moved true false b = refl
moved false a b = refl

pub ends_all : (sides : List RingSide) (y : ℤ) (ends : List End) → AreEndsBut sides [] y ends → AreEnds sides y ends
ends_all sides y ends but = record { rise = but.rise; even = xor_false _ _ but.even; same = λ x. xor_false _ _ (but.same x) }

pub ends_pass : (sides rest others : List RingSide) (s : RingSide) (y : ℤ) (ends : List End) → rest ≡ s ∷ others → passes s y ≡ false → AreEndsBut sides rest y ends → AreEndsBut sides others y ends
ends_pass sides rest others s y ends e out but =
    let b = subst (λ (r : List RingSide). AreEndsBut sides r y ends) e but in
    record {
      rise = b.rise;
      even = (λ i. xor (is_odd ends) (xor (sym out i) (is_odd_passed others y))) ∙ b.even;
      same = λ x. (λ i. xor (is_odd_to ends x) (xor (sym out i && int_le s.a.x x) (is_odd_left others x y))) ∙ b.same x;
    }

pub ends_take : (sides rest others : List RingSide) (s : RingSide) (end : End) (y : ℤ) (old new : List End) → rest ≡ s ∷ others → passes s y ≡ true → end.x ≡ s.a.x → IsToggled old end new → AreEndsBut sides rest y old → AreEndsBut sides others y new
ends_take sides rest others s end y old new e pass at t but =
    let b = subst (λ (r : List RingSide). AreEndsBut sides r y old) e but in
    record {
      rise = t.rise;
      even = (λ i. xor (t.odd i) (is_odd_passed others y)) ∙ turned (is_odd old) (is_odd_passed others y) ∙ (λ i. xor (is_odd old) (xor (sym pass i) (is_odd_passed others y))) ∙ b.even;
      same = λ x. (λ i. xor (t.same x i) (is_odd_left others x y)) ∙ moved (int_le end.x x) (is_odd_to old x) (is_odd_left others x y)
          ∙ (λ i. xor (is_odd_to old x) (xor (sym pass i && int_le (at i) x) (is_odd_left others x y))) ∙ b.same x;
    }

-- boxes so far, which boxes of the rest complete
pub record ArePairsBut (ends rest : List End) (low high : ℤ) (old new : List Rect) : Type 0 where
  pub rise : Rise rest
  pub even : is_odd rest ≡ false
  pub added : List Rect
  pub appended : new ≡ old ++ added
  pub completes : (more : List Rect) → ArePairs rest low high more → ArePairs ends low high (added ++ more)

pub pairs_all : (ends : List End) (low high : ℤ) (old new : List Rect) → ArePairsBut ends [] low high old new → (added : List Rect) × (new ≡ old ++ added) × ArePairs ends low high added
pairs_all ends low high old new but = (but.added, but.appended, subst (λ (xs : List Rect). ArePairs ends low high xs) (append_nil but.added) (but.completes [] tt))
  where
    append_nil : (xs : List Rect) → xs ++ [] ≡ xs
    append_nil [] = refl
    append_nil (x ∷ xs) = ap (λ (ys : List Rect). x ∷ ys) (append_nil xs)

pub pairs_more : (ends rest others after : List End) (a b : End) (low high : ℤ) (old now new : List Rect) (r : Rect) → rest ≡ a ∷ others → others ≡ b ∷ after
    → (r.x1 ≡ a.x) × (r.x2 ≡ b.x) × (r.y1 ≡ low) × (r.y2 ≡ high) → new ≡ now ++ r ∷ [] → ArePairsBut ends rest low high old now → ArePairsBut ends after low high old new
pairs_more ends rest others after a b low high old now new r e f box push but =
    let is : rest ≡ a ∷ b ∷ after = e ∙ ap (λ (es : List End). a ∷ es) f in
    let rise : Rise (a ∷ b ∷ after) = subst (λ (es : List End). Rise es) is but.rise in
    record {
      rise = rises b.x after rise.1;
      even = twice_not (is_odd after) ∙ subst (λ (es : List End). is_odd es ≡ false) is but.even;
      added = but.added ++ r ∷ [];
      appended = push ∙ ap (λ (xs : List Rect). xs ++ r ∷ []) but.appended ∙ append_assoc old but.added (r ∷ []);
      completes = λ more pairs. subst (λ (xs : List Rect). ArePairs ends low high xs) (sym (append_assoc but.added (r ∷ []) more))
          (but.completes (r ∷ more) (subst (λ (es : List End). ArePairs es low high (r ∷ more)) (sym is) (box, pairs)));
    }
