-- The shapes of a layer that hold a cell.
use Rattle.std.proofs.Common.{◌≡◌, inl, inr, ℕ, List, [], ◌∷◌, get_or, Some, refl, sym, ap, subst, ◌∙◌, Bool, true, false, ◌==◌, if◌then◌else◌, eq-eqb, ℤ}
use Rattle.std.specs.Prelude.{Contains, slice_get}
use Rattle.std.proofs.lemmas.Bool.{eqb-true}
use Rattle.std.proofs.lemmas.Option.{slice_get-get_or, get_or_from_slice_get}
use Rattle.or_geom.specs.declared.shape.Point.{Point}
use Rattle.or_geom.specs.declared.shape.Rect.{Rect}
use Rattle.or_geom.specs.declared.shape.Shape.{Shape}
use Rattle.or_geom.specs.Covered.{HasCell, HasCellInSome}
use Rattle.or_geom.specs.Row.{IsFound}
use Rattle.or_geom.proofs.CoverLaws.{cell_among}
use Rattle.or_geom.proofs.ListLaws.{contains_none, contains_cases, contains_first, contains_later, contained_at}
use Rattle.shape_bins.specs.declared.query.Query.TheVariants.{Holds}
use Rattle.shape_bins.specs.Hits.{IsHit}
use Rattle.shape_bins.specs.Layers.{rects_on}

-- the rectangle of a shape of the layer is one of the layer's
on_first : (layer : ℕ) (s : Shape) (ss : List Shape) (b : Bool) → (s.layer == layer) ≡ b → s.layer ≡ layer → Contains (if b then s.rect ∷ rects_on layer ss else rects_on layer ss) s.rect
on_first layer s ss true e on = contains_first s.rect (rects_on layer ss)
on_first layer s ss false e on = let yes : (s.layer == layer) ≡ true = eq-eqb s.layer layer on in absurd cc

on_later : (layer : ℕ) (s : Shape) (ss : List Shape) (r : Rect) (b : Bool) → Contains (rects_on layer ss) r → Contains (if b then s.rect ∷ rects_on layer ss else rects_on layer ss) r
on_later layer s ss r true h = contains_later s.rect (rects_on layer ss) r h
on_later layer s ss r false h = h

pub on_rects : (layer : ℕ) (shapes : List Shape) (s : Shape) → Contains shapes s → s.layer ≡ layer → Contains (rects_on layer shapes) s.rect
on_rects layer [] s one on = absurd (contains_none s one)
on_rects layer (t ∷ ts) s one on = elim (contains_cases t ts s one) [
  | inl e ↦ subst (λ (u : Shape). Contains (rects_on layer (t ∷ ts)) u.rect) (sym e) (on_first layer t ts (t.layer == layer) refl (subst (λ (u : Shape). u.layer ≡ layer) e on))
  | inr more ↦ on_later layer t ts s.rect (t.layer == layer) (on_rects layer ts s more on)
]

-- a shape of the layer that has the cell
pub record IsShapeOver (layer : ℕ) (shapes : List Shape) (x y : ℤ) : Type 0 where
  pub shape : Shape
  pub there : Contains shapes shape
  pub on : shape.layer ≡ layer
  pub holds : HasCell shape.rect x y

later : (layer : ℕ) (s : Shape) (ss : List Shape) (x y : ℤ) → IsShapeOver layer ss x y → IsShapeOver layer (s ∷ ss) x y
later layer s ss x y o = record { shape = o.shape; there = contains_later s ss o.shape o.there; on = o.on; holds = o.holds }

over_first : (layer : ℕ) (s : Shape) (ss : List Shape) (x y : ℤ) (b : Bool) → (s.layer == layer) ≡ b → (HasCellInSome (rects_on layer ss) x y → IsShapeOver layer ss x y) → HasCellInSome (if b then s.rect ∷ rects_on layer ss else rects_on layer ss) x y
    → IsShapeOver layer (s ∷ ss) x y
over_first layer s ss x y true e more (inl here) = record { shape = s; there = contains_first s ss; on = eqb-true s.layer layer e; holds = here }
over_first layer s ss x y true e more (inr there) = later layer s ss x y (more there)
over_first layer s ss x y false e more h = later layer s ss x y (more h)

pub shape_over : (layer : ℕ) (shapes : List Shape) (x y : ℤ) → HasCellInSome (rects_on layer shapes) x y → IsShapeOver layer shapes x y
shape_over layer [] x y h = absurd h
shape_over layer (s ∷ ss) x y h = over_first layer s ss x y (s.layer == layer) refl (shape_over layer ss x y) h

-- a shape that holds the cell, by its place
pub over_hit : (shapes : List Shape) (layer : ℕ) (cell : Point) → HasCellInSome (rects_on layer shapes) cell.x cell.y → (place : ℕ) × IsHit shapes layer (Holds cell) place
over_hit shapes layer cell h =
    let o = shape_over layer shapes cell.x cell.y h in
    (o.there.0, record { shape = o.shape; there = slice_get-get_or shapes o.there.0 o.shape o.there.1 ∙ ap (λ (s : Shape). Some s) o.there.2; on = o.on; fits = o.holds })

pub hit_found : (shapes : List Shape) (layer : ℕ) (cell : Point) (place : ℕ) (shape : Shape) → slice_get shapes place ≡ Some shape → shape.layer ≡ layer → HasCell shape.rect cell.x cell.y → IsFound (rects_on layer shapes) cell shape.rect
hit_found shapes layer cell place shape there on holds = record {
  holds = holds;
  covered = λ x y h. cell_among (rects_on layer shapes) shape.rect x y (on_rects layer shapes shape (contained_at shapes place shape there) on) h;
}

-- as the code reads it
pub hit_read : (shapes : List Shape) (layer : ℕ) (cell : Point) (place : ℕ) (other : Shape) → IsHit shapes layer (Holds cell) place → IsFound (rects_on layer shapes) cell (get_or shapes place other).rect
hit_read shapes layer cell place other hit =
    let e : get_or shapes place other ≡ hit.shape = get_or_from_slice_get shapes place hit.shape other hit.there in
    subst (λ (s : Shape). IsFound (rects_on layer shapes) cell s.rect) (sym e) (hit_found shapes layer cell place hit.shape hit.there hit.on hit.fits)
