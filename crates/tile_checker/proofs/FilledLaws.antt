-- Two shapes in a box that their layer covers have a covered gap.
use Rattle.std.proofs.Common.{◌≡◌, refl, ◌⊎◌, inl, inr, ℕ, ℤ, pos, ◌≤ℤ◌, ◌+ℤ◌, ◌-ℤ◌, List, [], sym, subst, ◌∙◌, arith}
use Rattle.std.specs.Int.{int_max, int_min}
use Rattle.std.proofs.lemmas.Int.{ints, clamps, by_lt_z}
use Rattle.or_geom.specs.declared.shape.Rect.{Rect}
use Rattle.or_geom.specs.declared.shape.Shape.{Shape}
use Rattle.or_geom.specs.declared.span.Span.{Span}
use Rattle.or_geom.specs.Adds.{Adds}
use Rattle.or_geom.specs.Covered.{HasCell}
use Rattle.or_geom.specs.Gap.{IsGap}
use Rattle.or_geom.specs.Span.{across, upward}
use Rattle.std.specs.Prelude.{Contains}
use Rattle.or_geom.proofs.ListLaws.{one_at, contains_none}
use Rattle.shape_bins.specs.declared.clear.ClearBox.{ClearBox}
use Rattle.shape_bins.specs.Clear.{AreNearer, HasClearance}
use Rattle.shape_bins.specs.declared.query.Query.TheVariants.{MeetsOutside}
use Rattle.shape_bins.specs.Hits.{IsHit, IsNearShape}
use Rattle.shape_bins.specs.Layers.{IsCoveredBy}
use Rattle.or_geom.specs.Containing.{HoldsRect}
use Rattle.tile_checker.specs.Breaks.{AreNear, IsGapCovered}
use Rattle.tile_checker.specs.Firsts.{IsFilledAround, IsClearAround, LiesClear, LieInOneBox, ArePartnersIn}
use Rattle.tile_checker.specs.ClearArea.{IsClearArea}
use Rattle.tile_checker.specs.declared.clear.ClearArea.{ClearArea}
use Rattle.tile_checker.proofs.NearLaws.{near_gaps}
use Rattle.tile_checker.proofs.PlaceLaws.{adds_all}

-- the gap of two spans, which lies where both do
record HasGapWithin (a b : Span) (low high : ℤ) : Type 0 where
  pub gap : Span
  pub is : IsGap a b gap
  pub above : low ≤ℤ gap.low
  pub below : gap.high ≤ℤ high

gap_within : (a b : Span) (low high : ℤ) → low ≤ℤ a.low → low ≤ℤ b.low → a.high ≤ℤ high → b.high ≤ℤ high → HasGapWithin a b low high
gap_within a b low high al bl ah bh =
    let oa = a.ordered in
    let ob = b.ordered in
    by_lt_z a.high b.low
    (λ lt. record {
      gap = record { low = a.high; high = b.low; ordered = lt };
      is = record {
        before = λ k. record { from = refl; to = refl };
        after = λ k. absurd (omega (arith, ints, oa, ob, lt, k));
        touching_before = λ k. absurd (omega (arith, ints, lt, k));
        touching_after = λ k. absurd (omega (arith, ints, oa, ob, lt, k));
        shared = λ j k. absurd (omega (arith, ints, lt, k));
      };
      above = omega (arith, ints, oa, al);
      below = omega (arith, ints, ob, bh);
    })
    (λ ge. by_lt_z b.high a.low
    (λ lt. record {
      gap = record { low = b.high; high = a.low; ordered = lt };
      is = record {
        before = λ k. absurd (omega (arith, ints, oa, ob, lt, k));
        after = λ k. record { from = refl; to = refl };
        touching_before = λ k. absurd (omega (arith, ints, oa, ob, lt, k));
        touching_after = λ k. absurd (omega (arith, ints, lt, k));
        shared = λ j k. absurd (omega (arith, ints, lt, j));
      };
      above = omega (arith, ints, ob, bl);
      below = omega (arith, ints, oa, ah);
    })
    (λ ge2. by_lt_z b.low a.high
    (λ j. by_lt_z a.low b.high
    (λ k. record {
      gap = record { low = int_max a.low b.low; high = int_min a.high b.high; ordered = omega (arith, ints, clamps, oa, ob, j, k) };
      is = record {
        before = λ h. absurd (omega (arith, ints, h, j));
        after = λ h. absurd (omega (arith, ints, h, k));
        touching_before = λ h. absurd (omega (arith, ints, h, j));
        touching_after = λ h. absurd (omega (arith, ints, h, k));
        shared = λ u v z. (
          λ w. (record { above = omega (arith, ints, clamps, w.above); below = omega (arith, ints, clamps, w.below) }, record { above = omega (arith, ints, clamps, w.above); below = omega (arith, ints, clamps, w.below) }),
          λ w. record { above = omega (arith, ints, clamps, w.0.above, w.1.above); below = omega (arith, ints, clamps, w.0.below, w.1.below) },
        );
      };
      above = omega (arith, ints, clamps, al, bl);
      below = omega (arith, ints, clamps, ah, bh);
    })
    (λ k. record {
      gap = record { low = b.high -ℤ pos 1; high = b.high +ℤ pos 1; ordered = omega (arith, ints) };
      is = record {
        before = λ h. absurd (omega (arith, ints, h, j));
        after = λ h. absurd (omega (arith, ints, h, ge2));
        touching_before = λ h. absurd (omega (arith, ints, h, j));
        touching_after = λ h. record { from = refl; to = refl };
        shared = λ u v. absurd (omega (arith, ints, u, k));
      };
      above = omega (arith, ints, ob, bl);
      below = omega (arith, ints, oa, k, ah);
    }))
    (λ j. record {
      gap = record { low = a.high -ℤ pos 1; high = a.high +ℤ pos 1; ordered = omega (arith, ints) };
      is = record {
        before = λ h. absurd (omega (arith, ints, h, ge));
        after = λ h. absurd (omega (arith, ints, h, ge2));
        touching_before = λ h. record { from = refl; to = refl };
        touching_after = λ h. absurd (omega (arith, ints, oa, ob, h, j));
        shared = λ u v. absurd (omega (arith, ints, v, j));
      };
      above = omega (arith, ints, oa, al);
      below = omega (arith, ints, ob, j, bh);
    })))

cell_held : (outer inner : Rect) (x y : ℤ) → HoldsRect outer inner → HasCell inner x y → HasCell outer x y
cell_held outer inner x y h c = record { left = omega (arith, ints, h.left, c.left); right = omega (arith, ints, h.right, c.right); low = omega (arith, ints, h.low, c.low); high = omega (arith, ints, h.high, c.high) }

pub one_box_covers : (shapes : List Shape) (a b : Shape) → LieInOneBox shapes a b → IsGapCovered shapes a b
one_box_covers shapes a b one =
    let p = one.first.holds in
    let q = one.second in
    let x = gap_within (across a.rect) (across b.rect) one.box.x1 one.box.x2 p.left q.left p.right q.right in
    let y = gap_within (upward a.rect) (upward b.rect) one.box.y1 one.box.y2 p.low q.low p.high q.high in
    let gap : Rect = record { x1 = x.gap.low; y1 = y.gap.low; x2 = x.gap.high; y2 = y.gap.high; wide = x.gap.ordered; tall = y.gap.ordered } in
    record {
      one_layer = one.one_layer;
      gap = gap;
      is = record { in_x = x.is; in_y = y.is };
      covered = λ u v h. one.first.covered u v (cell_held one.box gap u v (record { left = x.above; right = x.below; low = y.above; high = y.below }) h);
    }

none_contained : (place : ℕ) → Contains [] place → ⊥
none_contained place h = contains_none place h

-- what is near a shape in the box is nearer to the box than its clearance, which is no less than the minimum
clear_nearer : (min : ℤ) (a b : Rect) (box : ClearBox) → pos 1 ≤ℤ min → AreNear min a b → HoldsRect box.rect a → min ≤ℤ box.clearance → AreNearer box.clearance b box.rect
clear_nearer min a b box some near holds enough =
    let n = near_gaps min a b some near in record {
      left = omega (arith, ints, n.left, holds.right, enough);
      right = omega (arith, ints, n.right, holds.left, enough);
      low = omega (arith, ints, n.low, holds.high, enough);
      high = omega (arith, ints, n.high, holds.low, enough);
    }

holds_or : (outer inner : Rect) → HoldsRect outer inner ⊎ (HoldsRect outer inner → ⊥)
holds_or outer inner =
    by_lt_z inner.x1 outer.x1 (λ lt. inr (λ h. let k = h.left in omega (arith, ints, k, lt)))
    (λ left. by_lt_z outer.x2 inner.x2 (λ lt. inr (λ h. let k = h.right in omega (arith, ints, k, lt)))
    (λ right. by_lt_z inner.y1 outer.y1 (λ lt. inr (λ h. let k = h.low in omega (arith, ints, k, lt)))
    (λ low. by_lt_z outer.y2 inner.y2 (λ lt. inr (λ h. let k = h.high in omega (arith, ints, k, lt)))
    (λ high. inl (record { left = left; right = right; low = low; high = high })))))

-- all shapes that meet the area are listed
pub partners_near : (min : ℤ) (shapes : List Shape) (layer : ℕ) (a : Shape) (area : Rect) (none places : List ℕ) → none ≡ [] → Adds none places (IsNearShape shapes layer area) → ArePartnersIn min shapes layer a area places
partners_near min shapes layer a area none places empty adds =
    let all = adds_all places (IsNearShape shapes layer area) (subst (λ (l : List ℕ). Adds l places (IsNearShape shapes layer area)) empty adds) in
    record { only = λ place h. (all place).0 h; each = λ place b at near. inl ((all place).1 near) }

-- or those are that the box doesn't hold
pub partners_outside : (min : ℤ) (shapes : List Shape) (layer : ℕ) (a : Shape) (area box : Rect) (none places : List ℕ) → layer ≡ a.layer → none ≡ [] → IsFilledAround shapes a box → Adds none places (IsHit shapes layer (MeetsOutside area box))
    → ArePartnersIn min shapes layer a area places
partners_outside min shapes layer a area box none places own empty around adds =
    let all = adds_all places (IsHit shapes layer (MeetsOutside area box)) (subst (λ (l : List ℕ). Adds l places (IsHit shapes layer (MeetsOutside area box))) empty adds) in
    record {
      only = λ place h. let hit = (all place).0 h in record { shape = hit.shape; there = hit.there; on = hit.on; fits = hit.fits.meets };
      each = λ place b at near. let e : near.shape ≡ b = one_at shapes place near.shape b near.there at in elim (holds_or box near.shape.rect) [
        | inl held ↦ inr (λ close not. not (record {
          one_layer = sym own ∙ (sym near.on ∙ (λ i. (e i).layer));
          box = box;
          first = around;
          second = subst (λ (s : Shape). HoldsRect box s.rect) e held;
        }))
        | inr out ↦ inl ((all place).1 (record { shape = near.shape; there = near.there; on = near.on; fits = record { meets = near.fits; outside = out } }))
      ];
    }

-- none are, where no shape outside of the box comes nearer to it than the minimum
pub partners_clear : (min : ℤ) (shapes : List Shape) (layer : ℕ) (a : Shape) (area : Rect) (box : ClearBox) (places : List ℕ) → pos 1 ≤ℤ min → layer ≡ a.layer → places ≡ [] → IsClearAround shapes a box → min ≤ℤ box.clearance
    → ArePartnersIn min shapes layer a area places
partners_clear min shapes layer a area box places some own empty around enough = record {
  only = λ place h. absurd (none_contained place (subst (λ (l : List ℕ). Contains l place) empty h));
  each = λ place b at near.
      let e : near.shape ≡ b = one_at shapes place near.shape b near.there at in
      let on : b.layer ≡ a.layer = subst (λ (s : Shape). s.layer ≡ a.layer) e (near.on ∙ own) in
      inr (λ close not. around.clear (omega (arith, ints, some, enough)) place b at on (clear_nearer min a.rect b.rect box some close around.around.holds enough)
      (λ held. not (record { one_layer = sym on; box = box.rect; first = around.around; second = held })));
}

-- a shape of the layer lies clear in a box that holds it and whose clearance isn't less than the minimum
pub clear_seen : (min : ℤ) (shapes : List Shape) (a : Shape) (area : ClearArea) → IsClearArea shapes area → area.layer ≡ a.layer → min ≤ℤ area.filled.clearance → HoldsRect area.filled.rect a.rect → LiesClear min shapes a
clear_seen min shapes a area is on enough holds = record {
  box = area.filled;
  around = record {
    around = record { holds = holds; covered = subst (λ (l : ℕ). IsCoveredBy l shapes area.filled.rect) on is.covered };
    clear = subst (λ (l : ℕ). HasClearance shapes l area.filled.rect area.filled.clearance) on is.clear;
  };
  enough = enough;
}
