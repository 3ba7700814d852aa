-- The one shape on the layer of outlines.
use Rattle.std.proofs.Common.{◌≡◌, ℕ, ℤ, pos, List, Bool, true, false, ◌&&◌, refl, sym, ap, subst, ◌∙◌}
use Rattle.std.specs.Prelude.{not}
use Rattle.std.specs.Cmp.{int_cmp_is}
use Rattle.std.specs.Ordering.{is_eq, int_cmp}
use Rattle.std.specs.declared.cmp.Ordering.TheVariants.{Equal}
use Rattle.std.proofs.lemmas.Bool.{eq-eqb}
use Rattle.or_geom.proofs.ShapeOrderLaws.{shape_eq, same_shape}
use Rattle.or_geom.specs.declared.shape.Shape.{Shape}
use Rattle.wire_drawing.specs.Drawing.{IsBox}
use Rattle.tech_rules.specs.declared.tech.Wire.{Wire}
use Rattle.leaf_shapes.specs.declared.fit.CellSize.{CellSize}
use Rattle.leaf_shapes.specs.Outline.{IsOn, AreAll, IsAlone, IsCellOutline, LieInside}

-- where one shape is alone, all are each of them
pub alone_are_all : (layer : ℕ) (shapes : List Shape) (s t : Shape) → IsOn layer shapes s → IsAlone layer shapes t → AreAll layer shapes s
alone_are_all layer shapes s t on alone = λ other there. alone.only other there ∙ sym (alone.only s on)

-- the outline is the shape that is alone
pub outline_by : (wire : Wire) (outline : ℕ) (shapes : List Shape) (size : CellSize) (s : Shape) → IsAlone outline shapes s → IsCellOutline wire outline shapes size
    → IsBox outline (pos 0) (pos 0) size.width size.height s × LieInside wire s.rect shapes
outline_by wire outline shapes size s alone o =
    let same : o.shape ≡ s = sym (o.alone.only s alone.there) in
    (subst (λ (t : Shape). IsBox outline (pos 0) (pos 0) size.width size.height t) same o.is, subst (λ (t : Shape). LieInside wire t.rect shapes) same o.inside)

int_self : (z : ℤ) → is_eq (int_cmp z z) ≡ true
int_self z = ap is_eq (sym (int_cmp_is z z Equal refl))

both : (a b : Bool) → a ≡ true → b ≡ true → (a && b) ≡ true
both a b x y = rw (x, y) refl

-- a shape compares as equal to itself
self_eq : (s : Shape) → shape_eq s s ≡ true
self_eq s =
    both _ _ (eq-eqb s.layer s.layer refl) (both _ _ (int_self s.rect.x1) (both _ _ (int_self s.rect.y1) (both _ _ (int_self s.rect.x2) (int_self s.rect.y2))))

-- shapes that compare as different are, and shapes that don't aren't
pub differ : (s t : Shape) → true ≡ not (shape_eq s t) → s ≡ t → ⊥
differ s t unequal same =
    let e : shape_eq s t ≡ true = subst (λ (u : Shape). shape_eq s u ≡ true) same (self_eq s) in
    let f : ◌≡◌ {A = Bool} true false = unequal ∙ ap not e in
    cc

not_false : (b : Bool) → false ≡ not b → b ≡ true
not_false true e = refl
not_false false e = absurd cc

pub equal_by : (s t : Shape) → false ≡ not (shape_eq s t) → s ≡ t
equal_by s t e = same_shape s t (not_false (shape_eq s t) e)
