-- Shapes over an area, and the nets that they are on.
use Rattle.std.proofs.Common.{◌≡◌, ◌↔◌, ℕ, ◌+◌, ◌<◌, ◌≤◌, List, [], ◌++◌, length, get_or, sym, ap, subst, ◌∙◌, arith}
use Rattle.std.specs.Prelude.{Contains, Some, slice_get}
use Rattle.std.proofs.lemmas.Option.{slice_get_within, slice_get-get_or, same_Some}
use Rattle.std.proofs.lemmas.Int.{ints}
use Rattle.or_geom.specs.declared.shape.Rect.{Rect}
use Rattle.or_geom.specs.declared.shape.Shape.{Shape}
use Rattle.or_geom.specs.Adds.{Adds}
use Rattle.or_geom.proofs.ListLaws.{one_at, contained_at}
use Rattle.shape_bins.specs.declared.query.Query.TheVariants.{Overlaps}
use Rattle.shape_bins.specs.Hits.{IsHit, NoHitFrom, IsNearShape}
use Rattle.shape_bins.specs.Meets.{Overlap}
use Rattle.label_binding.proofs.PlaceLaws.{at_contained, each_more}
use Rattle.drawn_devices.specs.NetsOver.{IsOverAt, NoNetOver, IsNetOver, IsNetOfAll, HasNetIfOver, HaveNetIfOver}
use Rattle.drawn_devices.proofs.SideLaws.{overlap_shares, shares_overlap}

-- what is found over an area is a shape over it
pub over_hit : (shapes : List Shape) (layer index : ℕ) (area : Rect) (shape : Shape) → IsOverAt shapes layer area index shape → IsHit shapes layer (Overlaps area) index
over_hit shapes layer index area shape o = record { shape = shape; there = o.there; on = o.on; fits = shares_overlap shape.rect area o.over }

pub hit_over : (shapes : List Shape) (layer index : ℕ) (area : Rect) (h : IsHit shapes layer (Overlaps area) index) → IsOverAt shapes layer area index h.shape
hit_over shapes layer index area h = record { there = h.there; on = h.on; over = overlap_shares h.shape.rect area h.fits }

pub none_over : (shapes : List Shape) (layer : ℕ) (area : Rect) → NoHitFrom shapes layer (Overlaps area) 0 → NoNetOver shapes layer area
none_over shapes layer area none index shape o = none index (omega arith) (over_hit shapes layer index area shape o)

pub hit_within : (shapes : List Shape) (layer index : ℕ) (area : Rect) → IsHit shapes layer (Overlaps area) index → index < length shapes
hit_within shapes layer index area h = slice_get_within shapes index h.shape h.there

pub net_within : (shapes : List Shape) (nets : List ℕ) (layer index : ℕ) (area : Rect) → length nets ≡ length shapes → IsHit shapes layer (Overlaps area) index → index < length nets
net_within shapes nets layer index area sized h = let w = hit_within shapes layer index area h in omega (arith, w, sized)

pub net_found : (shapes : List Shape) (nets : List ℕ) (layer index net : ℕ) (area : Rect) → IsHit shapes layer (Overlaps area) index → slice_get nets index ≡ Some net → IsNetOver shapes nets layer area net
net_found shapes nets layer index net area h has = record { index = index; shape = h.shape; over = hit_over shapes layer index area h; has = has }

-- what shares area with the area lies near it
over_near : (shapes : List Shape) (layer index : ℕ) (area : Rect) (shape : Shape) → IsOverAt shapes layer area index shape → IsNearShape shapes layer area index
over_near shapes layer index area shape o =
    let m = shares_overlap shape.rect area o.over in
    record { shape = shape; there = o.there; on = o.on; fits = record { left = omega (arith, ints, m.left); right = omega (arith, ints, m.right); low = omega (arith, ints, m.low); high = omega (arith, ints, m.high) } }

-- one that lies near it
pub near_within : (shapes : List Shape) (layer index : ℕ) (area : Rect) → IsNearShape shapes layer area index → index < length shapes
near_within shapes layer index area n = slice_get_within shapes index n.shape n.there

pub near_net_within : (shapes : List Shape) (nets : List ℕ) (layer index : ℕ) (area : Rect) → length nets ≡ length shapes → IsNearShape shapes layer area index → index < length nets
near_net_within shapes nets layer index area sized n = let w = near_within shapes layer index area n in omega (arith, w, sized)

-- the shape at the index doesn't share area with the area
pub apart_has : (shapes : List Shape) (nets : List ℕ) (layer net index : ℕ) (area : Rect) (seen : Shape) → slice_get shapes index ≡ Some seen → (Overlap seen.rect area → ⊥) → HasNetIfOver shapes nets layer area net index
apart_has shapes nets layer net index area seen there apart shape o =
    absurd (apart (subst (λ (s : Shape). Overlap s.rect area) (one_at shapes index shape seen o.there there) (shares_overlap shape.rect area o.over)))

-- it does, and has a number
pub over_has : (shapes : List Shape) (nets : List ℕ) (layer net index number : ℕ) (area : Rect) (seen : Shape) → slice_get shapes index ≡ Some seen → IsNearShape shapes layer area index → Overlap seen.rect area → slice_get nets index ≡ Some number
    → (number ≡ net) ↔ HasNetIfOver shapes nets layer area net index
over_has shapes nets layer net index number area seen there near over has = (
  λ e shape o. has ∙ ap (λ (n : ℕ). Some n) e,
  λ all.
      let same : near.shape ≡ seen = one_at shapes index near.shape seen near.there there in
      let at : IsOverAt shapes layer area index seen = record { there = there; on = subst (λ (s : Shape). s.layer ≡ layer) same near.on; over = overlap_shares seen.rect area over } in
      same_Some number net (sym has ∙ all seen at),
)

-- those so far that share area with the area have this number
pub record AreAllSoFar (shapes : List Shape) (nets : List ℕ) (layer : ℕ) (area : Rect) (net : ℕ) (near : List ℕ) (done : ℕ) : Type 0 where
  pub each : (k index : ℕ) → k < done → slice_get near k ≡ Some index → HasNetIfOver shapes nets layer area net index

pub all_begin : (shapes : List Shape) (nets : List ℕ) (layer : ℕ) (area : Rect) (net : ℕ) (near : List ℕ) → AreAllSoFar shapes nets layer area net near 0
all_begin shapes nets layer area net near = record { each = λ k index lt. absurd (omega (arith, lt)) }

pub all_more : (shapes : List Shape) (nets : List ℕ) (layer : ℕ) (area : Rect) (net : ℕ) (near : List ℕ) (i : ℕ) → i < length near → HasNetIfOver shapes nets layer area net (get_or near i 0) → AreAllSoFar shapes nets layer area net near i
    → AreAllSoFar shapes nets layer area net near (i + 1)
all_more shapes nets layer area net near i lt here so = record {
  each = each_more (λ (k j : ℕ). HasNetIfOver shapes nets layer area net j) near i (get_or near i 0) (slice_get-get_or near i 0 lt) here so.each;
}

pub all_end : (shapes : List Shape) (nets : List ℕ) (layer : ℕ) (area : Rect) (net : ℕ) (near : List ℕ) (done : ℕ) → length near ≤ done → AreAllSoFar shapes nets layer area net near done → HaveNetIfOver shapes nets layer area net near
all_end shapes nets layer area net near done far so index among = let lt = among.1 in so.each among.0 index (omega (arith, lt, far)) (at_contained near index among)

-- an item of a list
pub item_among : (xs : List ℕ) (i : ℕ) → i < length xs → Contains xs (get_or xs i 0)
item_among xs i lt = contained_at xs i (get_or xs i 0) (slice_get-get_or xs i 0 lt)

-- a shape as the code reads it
pub read_at : (seen shapes : List Shape) (index : ℕ) (s : Shape) → seen ≡ shapes → index < length shapes → slice_get shapes index ≡ Some (get_or seen index s)
read_at seen shapes index s e lt = slice_get-get_or shapes index s lt ∙ ap (λ (l : List Shape). Some (get_or l index s)) (sym e)

-- the listed shapes are those near the area, and all that share area with it are among them
pub listed_near : (shapes : List Shape) (layer : ℕ) (area : Rect) (none near seen : List ℕ) → none ≡ [] → Adds none near (IsNearShape shapes layer area) → seen ≡ near → (index : ℕ) → Contains seen index → IsNearShape shapes layer area index
listed_near shapes layer area none near seen e adds same index among = adds.only index (subst (λ (l : List ℕ). Contains l index) (same ∙ (adds.is ∙ ap (λ (l : List ℕ). l ++ adds.added) e)) among)

pub near_is_all : (shapes : List Shape) (nets : List ℕ) (layer : ℕ) (area : Rect) (net : ℕ) (none near seen : List ℕ) → none ≡ [] → Adds none near (IsNearShape shapes layer area) → seen ≡ near
    → HaveNetIfOver shapes nets layer area net seen ↔ IsNetOfAll shapes nets layer area net
near_is_all shapes nets layer area net none near seen e adds same = (
  λ all index shape o. all index (subst (λ (l : List ℕ). Contains l index) (sym (same ∙ (adds.is ∙ ap (λ (l : List ℕ). l ++ adds.added) e))) (adds.each index (over_near shapes layer index area shape o))) shape o,
  λ all index among. all index,
)

-- no other number is that of all
pub one_number : (shapes : List Shape) (nets : List ℕ) (layer net other : ℕ) (area : Rect) → IsNetOver shapes nets layer area net → (IsNetOfAll shapes nets layer area net → ⊥) → IsNetOver shapes nets layer area other → IsNetOfAll shapes nets layer area other → ⊥
one_number shapes nets layer net other area over none seen all =
    let same : net ≡ other = same_Some net other (sym over.has ∙ all over.index over.shape over.over) in
    none (subst (λ (n : ℕ). IsNetOfAll shapes nets layer area n) (sym same) all)

pub none_of_all : (shapes : List Shape) (nets : List ℕ) (layer other : ℕ) (area : Rect) → NoNetOver shapes layer area → IsNetOver shapes nets layer area other → IsNetOfAll shapes nets layer area other → ⊥
none_of_all shapes nets layer other area none seen all = none seen.index seen.shape seen.over
