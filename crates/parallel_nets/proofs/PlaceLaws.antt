-- What the labels of a list bind, where its two parts are looked up one beside the other.
use Rattle.std.proofs.Common.{◌≡◌, ℕ, zero, suc, List, [], ◌∷◌, ◌++◌, take, drop, Option, Some, sym, subst, ap, ◌∙◌, arith}
use Rattle.std.specs.Prelude.{slice_get}
use Rattle.std.proofs.lemmas.List.{length-append, take-append-drop}
use Rattle.or_geom.specs.declared.shape.Shape.{Shape}
use Rattle.cell_hierarchy.specs.declared.flat.Label.{Label}
use Rattle.label_binding.specs.BoundPlaces.{AreBoundPlaces, IsFoundUnder}

each_of_both : (shapes : List Shape) (front back : List Label) (places others : List (Option ℕ)) → AreBoundPlaces shapes front places → AreBoundPlaces shapes back others
    → (index : ℕ) (label : Label) (found : Option ℕ) → slice_get (front ++ back) index ≡ Some label → slice_get (places ++ others) index ≡ Some found → IsFoundUnder shapes label found
each_of_both shapes [] back [] others first second index label found here at = second.each index label found here at
each_of_both shapes [] back (p ∷ places) others first second index label found here at = let s = first.sized in absurd (omega (arith, s))
each_of_both shapes (l ∷ front) back [] others first second index label found here at = let s = first.sized in absurd (omega (arith, s))
each_of_both shapes (l ∷ front) back (p ∷ places) others first second zero label found here at = first.each zero label found here at
each_of_both shapes (l ∷ front) back (p ∷ places) others first second (suc k) label found here at =
    each_of_both shapes front back places others (record { sized = let s = first.sized in omega (arith, s); each = λ j. first.each (suc j) }) second k label found here at

places_of_both : (shapes : List Shape) (front back : List Label) (places others : List (Option ℕ)) → AreBoundPlaces shapes front places → AreBoundPlaces shapes back others → AreBoundPlaces shapes (front ++ back) (places ++ others)
places_of_both shapes front back places others first second = record {
  sized = let a = length-append places others in let b = length-append front back in let s = first.sized in let t = second.sized in omega (arith, a, b, s, t);
  each = each_of_both shapes front back places others first second;
}

-- the two parts are those of the labels, and what was found for the second goes behind what was found for the first
pub places_of_parts : (shapes : List Shape) (labels front back : List Label) (count : ℕ) (places others more all : List (Option ℕ)) → front ≡ take count labels → back ≡ drop count labels → all ≡ places ++ more → more ≡ others
    → AreBoundPlaces shapes front places × AreBoundPlaces shapes back others → AreBoundPlaces shapes labels all
places_of_parts shapes labels front back count places others more all f b joined read both =
    let whole : front ++ back ≡ labels = ap (λ (l : List Label). l ++ back) f ∙ (ap (λ (l : List Label). take count labels ++ l) b ∙ take-append-drop count labels) in
    let same : places ++ others ≡ all = sym (joined ∙ ap (λ (l : List (Option ℕ)). places ++ l) read) in
    subst (λ (l : List Label). AreBoundPlaces shapes l all) whole (subst (λ (l : List (Option ℕ)). AreBoundPlaces shapes (front ++ back) l) same (places_of_both shapes front back places others both.0 both.1))
