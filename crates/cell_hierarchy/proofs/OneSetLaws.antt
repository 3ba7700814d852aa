-- Elements draw one set of shapes.
use Rattle.std.proofs.Common.{inl, inr, ℕ, List, [], ◌∷◌, ◌++◌, get_or, map, Option, Some, None, sym, subst, ◌∙◌}
use Rattle.std.specs.Prelude.{Contains}
use Rattle.std.proofs.lemmas.List.Elements.{All-map, All-contains, Contains-get_or, Contains-append_left, Contains-append_right, Contains-append_cases}
use Rattle.or_geom.specs.declared.shape.Rect.{Rect}
use Rattle.or_geom.specs.declared.shape.Shape.{Shape}
use Rattle.or_geom.proofs.ListLaws.{contains_map}
use Rattle.gds_library.specs.declared.library.Element.{Element}
use Rattle.gds_library.specs.declared.library.Element.TheVariants.{Boundary, Path, Sref, Aref, Text}
use Rattle.gds_library.specs.Writable.{IsWritableBody}
use Rattle.element_drawing.specs.Drawing.{IsDrawing}
use Rattle.element_drawing.specs.OwnShapes.{element_layer, on_layer, AreOn}
use Rattle.cell_hierarchy.specs.OneSet.{AreOneSet}
use Rattle.cell_hierarchy.proofs.PathLaws.{one_path}

-- an element draws one set of rectangles
one_drawing : (e : Element) (rs ss : List Rect) → IsWritableBody e → IsDrawing e rs → IsDrawing e ss → (r : Rect) → Contains rs r → Contains ss r
one_drawing (Boundary layer datatype points props) rs ss w a b r c = (b.exact r).1 ((a.exact r).0 c)
one_drawing (Path layer datatype kind width points props) rs ss w a b r c = subst (λ (ts : List Rect). Contains ts r) (one_path kind width points rs ss w.straight a b) c
one_drawing (Sref name place props) rs ss w a b r c = subst (λ (ts : List Rect). Contains ts r) (a ∙ sym b) c
one_drawing (Aref name place columns rows across down props) rs ss w a b r c = subst (λ (ts : List Rect). Contains ts r) (a ∙ sym b) c
one_drawing (Text layer texttype at string props) rs ss w a b r c = subst (λ (ts : List Rect). Contains ts r) (a ∙ sym b) c

map_kept : (f : Rect → Shape) (rs ss : List Rect) → ((r : Rect) → Contains rs r → Contains ss r) → (s : Shape) → Contains (map f rs) s → Contains (map f ss) s
map_kept f rs ss kept s c =
    All-contains (Contains (map f ss)) (map f rs) s (All-map (Contains (map f ss)) f rs (λ k d h. contains_map f ss (get_or rs k d) (kept (get_or rs k d) (Contains-get_or rs k d h)))) c

one_on : (place : Option ℕ) (IsDrawn : List Rect → Type 0) (a b : List Shape) → ((rs ss : List Rect) → IsDrawn rs → IsDrawn ss → (r : Rect) → Contains rs r → Contains ss r)
    → AreOn place IsDrawn a → AreOn place IsDrawn b → (s : Shape) → Contains a s → Contains b s
one_on None IsDrawn a b one p q s c = subst (λ (ts : List Shape). Contains ts s) (p ∙ sym q) c
one_on (Some layer) IsDrawn a b one p q s c =
    subst (λ (ts : List Shape). Contains ts s) (sym q.2) (map_kept (on_layer layer) p.0 q.0 (one p.0 q.0 p.1 q.1) s (subst (λ (ts : List Shape). Contains ts s) p.2 c))

pub one_set : AreOneSet
one_set layers [] a b w p q s c = subst (λ (ts : List Shape). Contains ts s) (p ∙ sym q) c
one_set layers (e ∷ es) a b w p q s c =
    let kept : Contains (q.0 ++ q.1) s = elim (Contains-append_cases p.0 p.1 s (subst (λ (ts : List Shape). Contains ts s) p.4 c)) [
      | inl first ↦ Contains-append_left q.0 q.1 s (one_on (element_layer layers e) (IsDrawing e) p.0 q.0 (λ rs ss. one_drawing e rs ss w.0.body) p.2 q.2 s first)
      | inr rest ↦ Contains-append_right q.0 q.1 s (one_set layers es p.1 q.1 w.1 p.3 q.3 s rest)
    ] in
    subst (λ (ts : List Shape). Contains ts s) (sym q.4) kept
