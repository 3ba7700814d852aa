-- What a walk over the nodes of trees passes over.
use Rattle.std.proofs.Common.{◌≡◌, inl, inr, ℕ, List, length, Some, refl, sym, subst, ◌∙◌, ◌≤◌, arith}
use Rattle.std.specs.Prelude.{slice_get, MatchOption, Option, None}
use Rattle.std.proofs.lemmas.Int.{ints}
use Rattle.std.proofs.lemmas.Option.{same_Some, slice_get_within, slice_get-get_or}
use Rattle.or_geom.specs.declared.shape.Rect.{Rect}
use Rattle.or_geom.specs.declared.shape.Point.{Point}
use Rattle.or_geom.specs.declared.shape.Shape.{Shape}
use Rattle.or_geom.specs.Containing.{HoldsRect}
use Rattle.or_geom.specs.Adds.{Adds}
use Rattle.or_geom.specs.Joined.{IsIn}
use Rattle.or_geom.proofs.AddsLaws.{adds_as}
use Rattle.shape_bins.specs.declared.forest.IndexedShape.{IndexedShape}
use Rattle.shape_bins.specs.declared.forest.NodeRange.{NodeRange}
use Rattle.shape_bins.specs.declared.node.Node.{Node}
use Rattle.shape_bins.specs.declared.query.Query.{Query}
use Rattle.shape_bins.specs.declared.query.Query.TheVariants.{Meets, MeetsOutside, Joins, Overlaps, At, Holds}
use Rattle.shape_bins.specs.Forest.{AreTreesTo, IsRangeOf, IsListedAt}
use Rattle.shape_bins.specs.Hits.{IsHit, IsHitFrom, NoHitFrom, IsFirstHit}
use Rattle.shape_bins.specs.Least.{IsLeastWith}
use Rattle.shape_bins.specs.Meets.{Meet}
use Rattle.shape_bins.specs.Nodes.{IsNodeOver, IsNodeNear, position_at}
use Rattle.shape_bins.specs.Places.{HasBetween}
use Rattle.shape_bins.specs.Query.{FitsQuery}
use Rattle.shape_bins.proofs.NodeLaws.{begin_rises}

in_outer : (outer inner : Rect) (p : Point) → HoldsRect outer inner → IsIn inner p → IsIn outer p
in_outer outer inner p h i = record {
  left = omega (arith, ints, h.left, i.left);
  right = omega (arith, ints, h.right, i.right);
  low = omega (arith, ints, h.low, i.low);
  high = omega (arith, ints, h.high, i.high);
}

meet_outer : (area outer inner : Rect) → HoldsRect outer inner → Meet inner area → Meet outer area
meet_outer area outer inner h m = record {
  left = omega (arith, ints, h.left, m.left);
  right = omega (arith, ints, h.right, m.right);
  low = omega (arith, ints, h.low, m.low);
  high = omega (arith, ints, h.high, m.high);
}

-- what holds the outer rectangle holds the inner
held_inner : (held outer inner : Rect) → HoldsRect outer inner → HoldsRect held outer → HoldsRect held inner
held_inner held outer inner h o = record {
  left = omega (arith, ints, h.left, o.left);
  right = omega (arith, ints, h.right, o.right);
  low = omega (arith, ints, h.low, o.low);
  high = omega (arith, ints, h.high, o.high);
}

-- a rectangle that holds one that is looked for is looked for
pub fits_outer : (query : Query) (outer inner : Rect) → HoldsRect outer inner → FitsQuery query inner → FitsQuery query outer
fits_outer (Meets area) outer inner h m = meet_outer area outer inner h m
fits_outer (MeetsOutside area held) outer inner h o = record { meets = meet_outer area outer inner h o.meets; outside = λ all. o.outside (held_inner held outer inner h all) }
fits_outer (Joins area) outer inner h j = record {
  p = j.p;
  q = j.q;
  differ = j.differ;
  p_in_a = in_outer outer inner j.p h j.p_in_a;
  p_in_b = j.p_in_b;
  q_in_a = in_outer outer inner j.q h j.q_in_a;
  q_in_b = j.q_in_b;
}
fits_outer (Overlaps area) outer inner h m = record {
  left = omega (arith, ints, h.left, m.left);
  right = omega (arith, ints, h.right, m.right);
  low = omega (arith, ints, h.low, m.low);
  high = omega (arith, ints, h.high, m.high);
}
fits_outer (At point) outer inner h i = in_outer outer inner point h i
fits_outer (Holds cell) outer inner h c = record { left = omega (arith, ints, h.left, c.left); right = omega (arith, ints, h.right, c.right); low = omega (arith, ints, h.low, c.low); high = omega (arith, ints, h.high, c.high) }

-- below a node that isn't near no shape is
pub near_none : (shapes : List Shape) (places : List ℕ) (layer : ℕ) (query : Query) (node : Node) → IsNodeOver shapes places node → (IsNodeNear layer query node → ⊥) → (place : ℕ)
    → HasBetween (IsHit shapes layer query) places node.first node.end place → ⊥
near_none shapes places layer query node over none place h =
    let held = over.held h.0.at place h.0.from h.0.to h.0.there in
    let e : h.1.shape ≡ held.shape = same_Some h.1.shape held.shape (sym h.1.there ∙ held.there) in
    let on : held.shape.layer ≡ layer = subst (λ (s : Shape). s.layer ≡ layer) e h.1.on in
    let fits : FitsQuery query held.shape.rect = subst (λ (s : Shape). FitsQuery query s.rect) e h.1.fits in
    none (record { on = sym held.on ∙ on; fits = fits_outer query node.hull.rect held.shape.rect held.holds fits })

-- a shape that is placed is looked for if its rectangle is
pub placed_hit : (shapes : List Shape) (places : List ℕ) (layer at : ℕ) (query : Query) (placed : IndexedShape) → IsListedAt shapes places layer at placed → FitsQuery query placed.shape.rect → IsHit shapes layer query placed.place
placed_hit shapes places layer at query placed is fits = record { shape = placed.shape; there = is.there; on = is.on; fits = fits }

pub placed_no_hit : (shapes : List Shape) (places : List ℕ) (layer at : ℕ) (query : Query) (placed : IndexedShape) → IsListedAt shapes places layer at placed → (FitsQuery query placed.shape.rect → ⊥) → IsHit shapes layer query placed.place → ⊥
placed_no_hit shapes places layer at query placed is none hit =
    none (subst (λ (s : Shape). FitsQuery query s.rect) (same_Some hit.shape placed.shape (sym hit.there ∙ is.there)) hit.fits)

-- each shape that is looked for stands somewhere in the list
pub hit_between : {ranges : List NodeRange} (shapes : List Shape) (places : List ℕ) (nodes : List Node) (layer : ℕ) (query : Query) (place : ℕ) → AreTreesTo shapes (length shapes) places nodes ranges → IsHit shapes layer query place
    → HasBetween (IsHit shapes layer query) places 0 (length shapes) place
hit_between shapes places nodes layer query place trees hit =
    let among = trees.all place (slice_get_within shapes place hit.shape hit.there) in
    let lt = among.1 in (
      record {
        at = among.0;
        from = omega arith;
        to = omega (arith, lt, trees.sized);
        there = subst (λ (p : ℕ). slice_get places among.0 ≡ Some p) among.2 (slice_get-get_or places among.0 place lt);
      },
      hit,
    )

-- the same of places from one on
pub near_none_from : (shapes : List Shape) (places : List ℕ) (layer : ℕ) (query : Query) (from : ℕ) (node : Node) → IsNodeOver shapes places node → (IsNodeNear layer query node → ⊥) → (place : ℕ)
    → HasBetween (IsHitFrom shapes layer query from) places node.first node.end place → ⊥
near_none_from shapes places layer query from node over none place h = near_none shapes places layer query node over none place (h.0, h.1.hit)

-- a walk from the first node of a layer's range up to the first one behind it
module _ {ranges : List NodeRange} (shapes : List Shape) (places : List ℕ) (nodes : List Node) (layer : ℕ) (query : Query) (range : NodeRange) (trees : AreTreesTo shapes (length shapes) places nodes ranges)
    (is : IsRangeOf shapes (length shapes) places nodes layer range) where
  -- no shape that is looked for stands before the range
  pub none_before : (place : ℕ) → HasBetween (IsHit shapes layer query) places 0 (position_at (length shapes) nodes range.first) place → ⊥
  none_before place h =
      let inside = is.holds h.0.at place h.0.there (record { shape = h.1.shape; there = h.1.there; on = h.1.on }) in
      let from = inside.0 in
      let to = h.0.to in
      omega (arith, from, to)

  pub none_before_from : (from place : ℕ) → HasBetween (IsHitFrom shapes layer query from) places 0 (position_at (length shapes) nodes range.first) place → ⊥
  none_before_from from place h = none_before place (h.0, h.1.hit)

  -- and none behind it
  pub hit_before : (at place : ℕ) → range.end ≤ at → IsHit shapes layer query place → HasBetween (IsHit shapes layer query) places 0 (position_at (length shapes) nodes at) place
  hit_before at place past hit =
      let h = hit_between shapes places nodes layer query place trees hit in
      let inside = is.holds h.0.at place h.0.there (record { shape = hit.shape; there = hit.there; on = hit.on }) in
      let to = inside.1 in
      let rise = begin_rises shapes places (length shapes) nodes range.end at trees.trees.each past in
      (record { at = h.0.at; from = h.0.from; to = omega (arith, to, rise); there = h.0.there }, hit)

  pub adds_all : (at : ℕ) (old new : List ℕ) → range.end ≤ at → Adds old new (HasBetween (IsHit shapes layer query) places 0 (position_at (length shapes) nodes at)) → Adds old new (IsHit shapes layer query)
  adds_all at old new past a = adds_as old new (HasBetween (IsHit shapes layer query) places 0 (position_at (length shapes) nodes at)) (IsHit shapes layer query) (λ p h. h.1) (λ p h. hit_before at p past h) a

  hit_before_from : (at from place : ℕ) → range.end ≤ at → from ≤ place → IsHit shapes layer query place → HasBetween (IsHitFrom shapes layer query from) places 0 (position_at (length shapes) nodes at) place
  hit_before_from at from place past above hit = ((hit_before at place past hit).0, record { from_there = above; hit = hit })

  -- the least of all
  pub least_all : (at from : ℕ) (found : Option ℕ) → range.end ≤ at → IsLeastWith None (HasBetween (IsHitFrom shapes layer query from) places 0 (position_at (length shapes) nodes at)) found
      → MatchOption found (NoHitFrom shapes layer query from) (IsFirstHit shapes layer query from)
  least_all at from None past l = λ place above hit. l.least place (hit_before_from at from place past above hit)
  least_all at from (Some place) past l = elim (l.one place refl) [
    | inl e ↦ absurd cc
    | inr h ↦ record {
      from_there = h.1.from_there;
      hit = h.1.hit;
      first = λ other above hit. l.least other (hit_before_from at from other past above hit);
    }
  ]
