-- Tiles row by row, and the one that has a point.
use Rattle.std.proofs.Common.{◌≡◌, ◌⊎◌, inl, inr, ℕ, ◌+◌, ◌<◌, ◌≤◌, List, [], ◌∷◌, ◌++◌, length, get_or, ℤ, ◌≤ℤ◌, ◌<ℤ◌, Some, sym, ap, subst, ◌∙◌, arith}
use Rattle.std.specs.Prelude.{Contains, slice_get}
use Rattle.std.proofs.lemmas.Int.{ints, clamps, by_lt_z}
use Rattle.std.proofs.lemmas.Option.{same_Some, slice_get_within, slice_get-get_or}
use Rattle.std.proofs.lemmas.List.Elements.{Contains-append_cases}
use Rattle.or_geom.specs.declared.shape.Rect.{Rect}
use Rattle.or_geom.specs.declared.shape.Shape.{Shape}
use Rattle.or_geom.specs.Covered.{HasCell, HasCellInSome}
use Rattle.or_geom.specs.Distance.{IsNear, IsReachable}
use Rattle.or_geom.specs.Reachable.{AreReachable}
use Rattle.or_geom.specs.Containing.{IsAround}
use Rattle.or_geom.proofs.ListLaws.{below_or, contains_none, contains_cases, contains_first, contains_later, contained_at}
use Rattle.tile_checker.specs.Tiles.{AreDisjoint, HasCorners, IsTiling, AreCellRows, IsRowAdded}
use Rattle.tile_checker.proofs.PlaceLaws.{place_of, reachable_in}

-- one tile more
in_some_cases : (tiles : List Rect) (t : Rect) (x y : ℤ) → HasCellInSome (tiles ++ t ∷ []) x y → HasCellInSome tiles x y ⊎ HasCell t x y
in_some_cases [] t x y (inl h) = inr h
in_some_cases [] t x y (inr n) = absurd n
in_some_cases (s ∷ ss) t x y (inl h) = inl (inl h)
in_some_cases (s ∷ ss) t x y (inr h) = elim (in_some_cases ss t x y h) [ inl k ↦ inl (inr k) | inr k ↦ inr k ]

in_some_kept : (tiles : List Rect) (t : Rect) (x y : ℤ) → HasCellInSome tiles x y → HasCellInSome (tiles ++ t ∷ []) x y
in_some_kept [] t x y h = absurd h
in_some_kept (s ∷ ss) t x y (inl h) = inl h
in_some_kept (s ∷ ss) t x y (inr h) = inr (in_some_kept ss t x y h)

in_some_last : (tiles : List Rect) (t : Rect) (x y : ℤ) → HasCell t x y → HasCellInSome (tiles ++ t ∷ []) x y
in_some_last [] t x y h = inl h
in_some_last (s ∷ ss) t x y h = inr (in_some_last ss t x y h)

apart_more : (tiles : List Rect) (t : Rect) → AreDisjoint tiles → ((x y : ℤ) → HasCellInSome tiles x y → HasCell t x y → ⊥) → AreDisjoint (tiles ++ t ∷ [])
apart_more [] t apart none = (λ x y h n. n, tt)
apart_more (s ∷ ss) t apart none = (
  λ x y h k. elim (in_some_cases ss t x y k) [ inl i ↦ apart.0 x y h i | inr n ↦ none x y (inl h) n ],
  apart_more ss t apart.1 (λ x y h n. none x y (inr h) n),
)

only_this : (t s : Rect) → Contains (t ∷ []) s → s ≡ t
only_this t s h = elim (contains_cases t [] s h) [ inl e ↦ e | inr n ↦ absurd (contains_none s n) ]

near_between : (a z b : ℤ) → IsNear a → IsNear b → a ≤ℤ z → z ≤ℤ b → IsNear z
near_between a z b p q from to = record { above = omega (arith, ints, p.above, from); below = omega (arith, ints, q.below, to) }

-- a row of tiles, as far as to this column
pub record IsRowTo (area : Rect) (low high left : ℤ) (old now : List Rect) : Type 0 where
  pub from : area.x1 ≤ℤ left
  pub to : left ≤ℤ area.x2
  pub kept : (x y : ℤ) → HasCellInSome old x y → HasCellInSome now x y
  pub covered : (x y : ℤ) → area.x1 ≤ℤ x → x <ℤ left → low ≤ℤ y → y <ℤ high → HasCellInSome now x y
  pub only : (x y : ℤ) → HasCellInSome now x y → HasCellInSome old x y ⊎ ((x <ℤ left) × (y <ℤ high))
  pub apart : ((x y : ℤ) → HasCellInSome old x y → y <ℤ low) → AreDisjoint old → AreDisjoint now
  pub reach : ((t : Rect) → Contains old t → IsReachable t) → (t : Rect) → Contains now t → IsReachable t

pub row_begins : (area : Rect) (low high : ℤ) (old : List Rect) → IsRowTo area low high area.x1 old old
row_begins area low high old = record {
  from = omega (arith, ints);
  to = let w = area.wide in omega (arith, ints, w);
  kept = λ x y h. h;
  covered = λ x y a b c d. absurd (omega (arith, ints, a, b));
  only = λ x y h. inl h;
  apart = λ below apart. apart;
  reach = λ reach. reach;
}

tile_reach : (area t : Rect) → IsReachable area → area.x1 ≤ℤ t.x1 → t.x2 ≤ℤ area.x2 → area.y1 ≤ℤ t.y1 → t.y2 ≤ℤ area.y2 → IsReachable t
tile_reach area t r a b c d =
    let w = t.wide in
    let h = t.tall in
    record {
      x1 = near_between area.x1 t.x1 area.x2 r.x1 r.x2 a (omega (arith, ints, w, b));
      y1 = near_between area.y1 t.y1 area.y2 r.y1 r.y2 c (omega (arith, ints, h, d));
      x2 = near_between area.x1 t.x2 area.x2 r.x1 r.x2 (omega (arith, ints, w, a)) b;
      y2 = near_between area.y1 t.y2 area.y2 r.y1 r.y2 (omega (arith, ints, h, c)) d;
    }

row_to : (area : Rect) (low high left : ℤ) (old now : List Rect) (t : Rect) → IsReachable area → AreCellRows area low high → IsRowTo area low high left old now
    → t.x1 ≡ left → t.y1 ≡ low → t.y2 ≡ high → t.x2 ≤ℤ area.x2 → IsRowTo area low high t.x2 old (now ++ t ∷ [])
row_to area low high left old now t r rows b x1 y1 y2 within =
    let w = t.wide in
    record {
      from = omega (arith, ints, b.from, x1, w);
      to = within;
      kept = λ x y h. in_some_kept now t x y (b.kept x y h);
      covered = λ x y a c d e. by_lt_z x left (λ before. in_some_kept now t x y (b.covered x y a before d e))
          (λ after. in_some_last now t x y (record { left = omega (arith, ints, after, x1); right = c; low = omega (arith, ints, d, y1); high = omega (arith, ints, e, y2) }));
      only = λ x y h. elim (in_some_cases now t x y h) [
        | inl k ↦ elim (b.only x y k) [ inl o ↦ inl o | inr n ↦ let nx = n.0 in let ny = n.1 in inr (omega (arith, ints, nx, x1, w), ny) ]
        | inr k ↦ inr (k.right, omega (arith, ints, k.high, y2))
      ];
      apart = λ below apart. apart_more now t (b.apart below apart) (λ x y h k. elim (b.only x y h) [
        | inl o ↦ let u = below x y o in absurd (omega (arith, ints, u, k.low, y1))
        | inr n ↦ let nx = n.0 in absurd (omega (arith, ints, nx, k.left, x1))
      ]);
      reach = λ reach s h. elim (Contains-append_cases now (t ∷ []) s h) [
        | inl k ↦ b.reach reach s k
        | inr k ↦ subst IsReachable (sym (only_this t s k)) (tile_reach area t r (omega (arith, ints, b.from, x1)) within (omega (arith, ints, rows.from, y1)) (omega (arith, ints, rows.to, y2)))
      ];
    }

-- and one tile more
pub row_goes_on : (area : Rect) (low high left right : ℤ) (old now next : List Rect) (t : Rect) → IsRowTo area low high left old now → next ≡ now ++ t ∷ [] → IsReachable area → AreCellRows area low high
    → t.x1 ≡ left → t.x2 ≡ right → t.y1 ≡ low → t.y2 ≡ high → right ≤ℤ area.x2 → IsRowTo area low high right old next
row_goes_on area low high left right old now next t b is r rows x1 x2 y1 y2 within =
    subst (λ (l : List Rect). IsRowTo area low high right old l) (sym is)
    (subst (λ (z : ℤ). IsRowTo area low high z old (now ++ t ∷ [])) x2 (row_to area low high left old now t r rows b x1 y1 y2 (subst (λ (z : ℤ). z ≤ℤ area.x2) (sym x2) within)))

pub row_ends : (area : Rect) (low high left from to : ℤ) (old new : List Rect) → IsRowTo area low high left old new → area.x2 ≤ℤ left → low ≡ from → high ≡ to → IsRowAdded area from to old new
row_ends area low high left from to old new b end same_low same_high = record {
  kept = b.kept;
  covered = λ x y h d e. b.covered x y h.left (omega (arith, ints, h.right, end)) (omega (arith, ints, d, same_low)) (omega (arith, ints, e, same_high));
  only = λ x y h. elim (b.only x y h) [ inl o ↦ inl o | inr n ↦ let u = n.1 in inr (omega (arith, ints, u, same_high)) ];
  apart = λ below. b.apart (λ x y h. let u = below x y h in omega (arith, ints, u, same_low));
  reach = b.reach;
}

-- tiles over the rows below this one
pub record AreRowsTo (area : Rect) (low : ℤ) (tiles : List Rect) : Type 0 where
  pub from : area.y1 ≤ℤ low
  pub to : low ≤ℤ area.y2
  pub covered : (x y : ℤ) → HasCell area x y → y <ℤ low → HasCellInSome tiles x y
  pub below : (x y : ℤ) → HasCellInSome tiles x y → y <ℤ low
  pub apart : AreDisjoint tiles
  pub reach : (t : Rect) → Contains tiles t → IsReachable t

pub rows_begin : (area : Rect) → AreRowsTo area area.y1 []
rows_begin area = record {
  from = omega (arith, ints);
  to = let h = area.tall in omega (arith, ints, h);
  covered = λ x y h u. absurd (omega (arith, ints, h.low, u));
  below = λ x y h. absurd h;
  apart = tt;
  reach = λ t h. absurd (contains_none t h);
}

pub rows_go_on : (area : Rect) (low high from to : ℤ) (now next : List Rect) → AreRowsTo area low now → IsRowAdded area from to now next → from ≡ low → to ≡ high → low <ℤ high → high ≤ℤ area.y2 → AreRowsTo area high next
rows_go_on area low high from to now next b row same_low same_high some within = record {
  from = omega (arith, ints, b.from, some);
  to = within;
  covered = λ x y h u. by_lt_z y low (λ before. row.kept x y (b.covered x y h before)) (λ after. row.covered x y h (omega (arith, ints, after, same_low)) (omega (arith, ints, u, same_high)));
  below = λ x y h. elim (row.only x y h) [ inl o ↦ let u = b.below x y o in omega (arith, ints, u, some) | inr n ↦ omega (arith, ints, n, same_high) ];
  apart = row.apart (λ x y h. let u = b.below x y h in omega (arith, ints, u, same_low)) b.apart;
  reach = row.reach b.reach;
}

pub rows_end : (area : Rect) (low : ℤ) (tiles : List Rect) → AreRowsTo area low tiles → area.y2 ≤ℤ low → IsTiling area tiles
rows_end area low tiles b end = record {
  covered = λ x y h. b.covered x y h (omega (arith, ints, h.high, end));
  apart = b.apart;
  reach = b.reach;
}

-- the tile that has a point
pub cell_tile : (tiles : List Rect) (x y : ℤ) → HasCellInSome tiles x y → (t : Rect) × Contains tiles t × HasCell t x y
cell_tile [] x y h = absurd h
cell_tile (t ∷ ts) x y (inl h) = (t, contains_first t ts, h)
cell_tile (t ∷ ts) x y (inr h) = let r = cell_tile ts x y h in (r.0, contains_later t ts r.0 r.1, r.2)

-- the area contains the lower left corners of the shapes before this place
pub record IsAreaTo (shapes : List Shape) (n : ℕ) (area : Rect) : Type 0 where
  pub reach : IsReachable area
  pub corners : (k : ℕ) (s : Shape) → k < n → slice_get shapes k ≡ Some s → HasCell area s.rect.x1 s.rect.y1

pub area_goes_on : (shapes : List Shape) (n : ℕ) (s : Shape) (area next : Rect) → AreReachable shapes → n < length shapes → s ≡ get_or shapes n s → IsAreaTo shapes n area → IsAround area s.rect next → IsAreaTo shapes (n + 1) next
area_goes_on shapes n s area next reach lt is b around =
    let there : slice_get shapes n ≡ Some s = slice_get-get_or shapes n s lt ∙ ap (λ (t : Shape). Some t) (sym is) in
    let r = reachable_in shapes s reach (contained_at shapes n s there) in
    let wide = s.rect.wide in
    let tall = s.rect.tall in
    record {
      reach = record {
        x1 = record { above = omega (arith, ints, clamps, around.x1, b.reach.x1.above, r.x1.above); below = omega (arith, ints, clamps, around.x1, b.reach.x1.below, r.x1.below) };
        y1 = record { above = omega (arith, ints, clamps, around.y1, b.reach.y1.above, r.y1.above); below = omega (arith, ints, clamps, around.y1, b.reach.y1.below, r.y1.below) };
        x2 = record { above = omega (arith, ints, clamps, around.x2, b.reach.x2.above, r.x2.above); below = omega (arith, ints, clamps, around.x2, b.reach.x2.below, r.x2.below) };
        y2 = record { above = omega (arith, ints, clamps, around.y2, b.reach.y2.above, r.y2.above); below = omega (arith, ints, clamps, around.y2, b.reach.y2.below, r.y2.below) };
      };
      corners = λ k t below at. elim (below_or k n below) [
        | inl less ↦
            let h = b.corners k t less at in
            record { left = omega (arith, ints, clamps, around.x1, h.left); right = omega (arith, ints, clamps, around.x2, h.right); low = omega (arith, ints, clamps, around.y1, h.low); high = omega (arith, ints, clamps, around.y2, h.high) }
        | inr same ↦
            let e : s ≡ t = same_Some s t (sym there ∙ (ap (slice_get shapes) (sym same) ∙ at)) in
            subst (λ (u : Shape). HasCell next u.rect.x1 u.rect.y1) e
            (record { left = omega (arith, ints, clamps, around.x1); right = omega (arith, ints, clamps, around.x2, wide); low = omega (arith, ints, clamps, around.y1); high = omega (arith, ints, clamps, around.y2, tall) })
      ];
    }

pub area_begins : (shapes : List Shape) (area : Rect) → IsReachable area → IsAreaTo shapes 0 area
area_begins shapes area reach = record { reach = reach; corners = λ k s below at. absurd (omega (arith, below)) }

pub area_ends : (shapes : List Shape) (n : ℕ) (area : Rect) → length shapes ≤ n → IsAreaTo shapes n area → HasCorners area shapes
area_ends shapes n area end b s h =
    let p = place_of shapes s h in
    let within = slice_get_within shapes p.0 s p.1 in
    b.corners p.0 s (omega (arith, end, within)) p.1
