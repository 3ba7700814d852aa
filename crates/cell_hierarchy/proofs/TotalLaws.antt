-- A structure has one total.
use Rattle.std.proofs.Common.{◌≡◌, ℕ, zero, suc, ◌*◌, List, [], ◌∷◌, length, Option, Some, None, sym, ap, ◌∙◌, length-append, nat_abs}
use Rattle.std.specs.List.{AllByRecursion}
use Rattle.std.proofs.lemmas.List.{length-map}
use Rattle.or_geom.specs.declared.shape.Rect.{Rect}
use Rattle.or_geom.specs.declared.shape.Shape.{Shape}
use Rattle.gds_library.specs.declared.library.Element.{Element}
use Rattle.gds_library.specs.declared.library.Element.TheVariants.{Boundary, Path, Sref, Aref, Text}
use Rattle.gds_library.specs.Writable.{IsWritableBody, IsWritableElement}
use Rattle.tech_rules.specs.declared.tech.Layer.{Layer}
use Rattle.element_drawing.specs.Drawing.{IsDrawing}
use Rattle.element_drawing.specs.OwnShapes.{element_layer, on_layer, AreOn, AreOwnShapes}
use Rattle.cell_chains.specs.Chains.{elements_of}
use Rattle.cell_chains.proofs.ChainLaws.{writable_elements}
use Rattle.cell_hierarchy.specs.Counts.{Total, IsOwnTotal, IsBelow, IsTotalWithin, sum, times}
use Rattle.cell_hierarchy.specs.OneTotal.{IsOneTotal}
use Rattle.cell_hierarchy.proofs.PathLaws.{one_path}
use Rattle.cell_hierarchy.proofs.DistinctLaws.{same_length}

-- an element draws one number of rectangles
one_number : (e : Element) (rs ss : List Rect) → IsWritableBody e → IsDrawing e rs → IsDrawing e ss → length rs ≡ length ss
one_number (Boundary layer datatype points props) rs ss w a b = same_length rs ss a.distinct b.distinct (λ r c. (b.exact r).1 ((a.exact r).0 c)) (λ r c. (a.exact r).1 ((b.exact r).0 c))
one_number (Path layer datatype kind width points props) rs ss w a b = ap length (one_path kind width points rs ss w.straight a b)
one_number (Sref name place props) rs ss w a b = ap length (a ∙ sym b)
one_number (Aref name place columns rows across down props) rs ss w a b = ap length (a ∙ sym b)
one_number (Text layer texttype at string props) rs ss w a b = ap length (a ∙ sym b)

one_number_on : (place : Option ℕ) (IsDrawn : List Rect → Type 0) (a b : List Shape) → ((rs ss : List Rect) → IsDrawn rs → IsDrawn ss → length rs ≡ length ss) → AreOn place IsDrawn a → AreOn place IsDrawn b → length a ≡ length b
one_number_on None IsDrawn a b one p q = ap length (p ∙ sym q)
one_number_on (Some layer) IsDrawn a b one p q = ap length p.2 ∙ (length-map p.0 (on_layer layer) ∙ (one p.0 q.0 p.1 q.1 ∙ sym (ap length q.2 ∙ length-map q.0 (on_layer layer))))

one_number_of_shapes : (layers : List Layer) (es : List Element) (a b : List Shape) → AllByRecursion IsWritableElement es → AreOwnShapes layers es a → AreOwnShapes layers es b → length a ≡ length b
one_number_of_shapes layers [] a b w p q = ap length (p ∙ sym q)
one_number_of_shapes layers (e ∷ es) a b w p q =
    let first : length p.0 ≡ length q.0 = one_number_on (element_layer layers e) (IsDrawing e) p.0 q.0 (λ rs ss. one_number e rs ss w.0.body) p.2 q.2 in
    let rest : length p.1 ≡ length q.1 = one_number_of_shapes layers es p.1 q.1 w.1 p.3 q.3 in
    let sum_a = ap length p.4 ∙ length-append p.0 p.1 in
    let sum_b = ap length q.4 ∙ length-append q.0 q.1 in
    cc

same_total : (a b : Total) → a.shapes ≡ b.shapes → a.labels ≡ b.labels → a ≡ b
same_total a b shapes labels = λ i. record { shapes = shapes i; labels = labels i }

one_own : (layers : List Layer) (es : List Element) (a b : Total) → AllByRecursion IsWritableElement es → IsOwnTotal layers es a → IsOwnTotal layers es b → a ≡ b
one_own layers es a b w p q =
    same_total a b (p.shape_count ∙ (one_number_of_shapes layers es p.shapes q.shapes w p.drawn q.drawn ∙ sym q.shape_count)) (p.label_count ∙ sym q.label_count)

one_below : (IsTotal : List ℕ → Total → Type 0) (es : List Element) (a b : Total) → ((name : List ℕ) (x y : Total) → IsTotal name x → IsTotal name y → x ≡ y) → IsBelow IsTotal es a → IsBelow IsTotal es b → a ≡ b
one_below IsTotal [] a b one p q = p ∙ sym q
one_below IsTotal (Boundary layer datatype points props ∷ es) a b one p q = one_below IsTotal es a b one p q
one_below IsTotal (Path layer datatype kind width points props ∷ es) a b one p q = one_below IsTotal es a b one p q
one_below IsTotal (Sref name place props ∷ es) a b one p q =
    let each : p.0 ≡ q.0 = one name p.0 q.0 p.2 q.2 in
    let rest : p.1 ≡ q.1 = one_below IsTotal es p.1 q.1 one p.3 q.3 in
    p.4 ∙ (ap (λ (x : Total). sum x p.1) each ∙ (ap (sum q.0) rest ∙ sym q.4))
one_below IsTotal (Aref name place columns rows across down props ∷ es) a b one p q =
    let each : p.0 ≡ q.0 = one name p.0 q.0 p.2 q.2 in
    let rest : p.1 ≡ q.1 = one_below IsTotal es p.1 q.1 one p.3 q.3 in
    p.4 ∙ (ap (λ (x : Total). sum (times (nat_abs columns * nat_abs rows) x) p.1) each ∙ (ap (sum (times (nat_abs columns * nat_abs rows) q.0)) rest ∙ sym q.4))
one_below IsTotal (Text layer texttype at string props ∷ es) a b one p q = one_below IsTotal es a b one p q

pub one_total : IsOneTotal
one_total zero layers structs name a b w p q = one_own layers (elements_of structs name) a b (writable_elements structs name w) p q
one_total (suc depth) layers structs name a b w p q =
    let own : p.0 ≡ q.0 = one_own layers (elements_of structs name) p.0 q.0 (writable_elements structs name w) p.2 q.2 in
    let below : p.1 ≡ q.1 = one_below (IsTotalWithin depth layers structs) (elements_of structs name) p.1 q.1 (λ other x y. one_total depth layers structs other x y w) p.3 q.3 in
    p.4 ∙ (ap (λ (x : Total). sum x p.1) own ∙ (ap (sum q.0) below ∙ sym q.4))
