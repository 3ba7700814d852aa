-- The shapes of elements, one element after another.
use Rattle.std.proofs.Common.{◌≡◌, List, [], ◌∷◌, ◌++◌, refl, ap, sym, subst, ◌∙◌, append_assoc}
use Rattle.std.proofs.lemmas.List.{append-nil}
use Rattle.std.specs.List.{AllByRecursion}
use Rattle.or_geom.specs.declared.shape.Shape.{Shape}
use Rattle.gds_library.specs.declared.library.Element.{Element}
use Rattle.gds_library.specs.Writable.{IsWritableElement}
use Rattle.tech_rules.specs.declared.tech.Layer.{Layer}
use Rattle.element_drawing.specs.OwnShapes.{AreOwnShapes, AreShapesOf}

-- the shapes so far, which those of the rest complete
pub record AreShapesBut (layers : List Layer) (elements rest : List Element) (shapes : List Shape) : Type 0 where
  pub completes : (more : List Shape) → AreOwnShapes layers rest more → AreOwnShapes layers elements (shapes ++ more)
  pub writable : AllByRecursion IsWritableElement rest

pub shapes_more : (layers : List Layer) (elements rest others : List Element) (e : Element) (old new : List Shape) → rest ≡ e ∷ others → ((added : List Shape) × (new ≡ old ++ added) × AreShapesOf layers e added)
    → AreShapesBut layers elements rest old → AreShapesBut layers elements others new
shapes_more layers elements rest others e old new is more but =
    let b = subst (λ (es : List Element). AreShapesBut layers elements es old) is but in
    record {
      completes = λ later are. subst (AreOwnShapes layers elements) (sym (append_assoc old more.0 later) ∙ ap (λ (l : List Shape). l ++ later) (sym more.1)) (b.completes (more.0 ++ later) (more.0, later, more.2, are, refl));
      writable = b.writable.1;
    }

pub shapes_all : (layers : List Layer) (elements : List Element) (shapes : List Shape) → AreShapesBut layers elements [] shapes → AreOwnShapes layers elements shapes
shapes_all layers elements shapes but = subst (AreOwnShapes layers elements) (append-nil shapes) (but.completes [] refl)
